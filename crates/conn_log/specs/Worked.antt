-- What small logs say. Each log is the transcript of the worked script of its name, written as it is
-- printed, oldest first; what it has to say was read off the transcript.
use Rattle.std.specs.Prelude.{◌≡◌, ℕ, true, false, List, [], ◌∷◌, take, reverse, Option, Some, None}
use Rattle.persistence.specs.declared.facts.Facts.{Facts}
use Rattle.persistence.specs.declared.facts.Framing.TheVariants.{Counted}
use Rattle.persistence.specs.declared.facts.Version.TheVariants.{V11}
use Rattle.conn_log.specs.declared.entry.Want.{Want}
use Rattle.conn_log.specs.declared.entry.Cause.{Cause}
use Rattle.conn_log.specs.declared.entry.Cause.TheVariants.{NotPersistent, Cut, Forbidden, TooOld, HostRoom, Dropped, Withdrawn}
use Rattle.conn_log.specs.declared.entry.Event.TheVariants.{Opened, Leased, Returned, Closed, Waited, Limit}
use Rattle.conn_log.specs.declared.entry.Entry.{Entry}
use Rattle.conn_log.specs.Connections.{open_connections, idle_connections, Holding, holdings, held_number, holder, holds, is_held_by, since, born, lane}
use Rattle.conn_log.specs.Waiting.{waiting}
use Rattle.conn_log.specs.Wants.{want_of}
use Rattle.conn_log.specs.Fit.{is_too_old, newest_fit, oldest, idle_in_order}
use Rattle.conn_log.specs.Legal.{LimitAndFirst, limit_in_force, owed, IsLegal, IsQuiet}
use Rattle.conn_log.specs.declared.base.OpenConnection.{OpenConnection}
use Rattle.conn_log.specs.Bases.{summary}
use Rattle.conn_log.specs.Behind.{open_behind, holder_behind, oldest_stamp_behind}

-- the entries of a transcript
infix 80 opened◌for◌at◌
abbrev pub opened◌for◌at◌ : ℕ → Want → ℕ → Entry
opened c for want at moment = record { moment = moment; event = Opened c want }

infix 80 leased◌to◌at◌
abbrev pub leased◌to◌at◌ : ℕ → Want → ℕ → Entry
leased c to want at moment = record { moment = moment; event = Leased c want }

infix 80 returned◌with◌at◌
abbrev pub returned◌with◌at◌ : ℕ → Facts → ℕ → Entry
returned c with facts at moment = record { moment = moment; event = Returned c facts }

infix 80 closed◌for◌at◌
abbrev pub closed◌for◌at◌ : ℕ → Cause → ℕ → Entry
closed c for cause at moment = record { moment = moment; event = Closed c cause }

infix 80 waits◌at◌
abbrev pub waits◌at◌ : Want → ℕ → Entry
waits want at moment = record { moment = moment; event = Waited want }

infix 80 limit◌at◌
abbrev pub limit◌at◌ : ℕ → ℕ → Entry
limit n at moment = record { moment = moment; event = Limit n }

-- the log after the first lines of a transcript
abbrev pub log_after : ℕ → List Entry → List Entry
log_after lines transcript = reverse (take lines transcript)

-- what transfers want in the scripts, if nothing else is said
abbrev pub get : ℕ → Want
get transfer = want_of transfer

-- with what connections come back
abbrev pub keep : Facts
keep = record { version = V11; close = false; keep_alive = false; request_close = false; framing = Counted; both_lengths = false; upgraded = false; whole = true; surplus = false }

abbrev pub close : Facts
close = record keep { close = true }

abbrev pub cut : Facts
cut = record keep { whole = false }

-- that many connections may be open at the host, and its first number is 1
abbrev pub limits : ℕ → LimitAndFirst
limits most = record { limit = most; first = 1 }

-- a transfer that holds a connection is busy, and no other one is
abbrev pub busy_and_no_such_site : List Entry
busy_and_no_such_site =
    opened 1 for get 1 at 0
    ∷ []

pub record BusyAndNoSuchSite : Type 0 where
  pub one_open : open_connections (log_after 1 busy_and_no_such_site) ≡ 1 ∷ []
  pub held : holder (log_after 1 busy_and_no_such_site) 1 ≡ Some 1
  pub is_busy : holds (log_after 1 busy_and_no_such_site) 1 ≡ true
  pub is_free : holds (log_after 1 busy_and_no_such_site) 7 ≡ false
  pub none_idle : oldest (log_after 1 busy_and_no_such_site) ≡ None

-- a connection comes back, is leased again and is dropped
abbrev pub reuse_then_drop : List Entry
reuse_then_drop =
    opened 1 for get 1 at 0
    ∷ returned 1 with keep at 2
    ∷ leased 1 to get 2 at 3
    ∷ closed 1 for Dropped at 4
    ∷ []

pub record ReuseThenDrop : Type 0 where
  pub one_idle : idle_connections (log_after 2 reuse_then_drop) ≡ 1 ∷ []
  pub idle_since : since (log_after 2 reuse_then_drop) 1 ≡ 2
  pub fit : newest_fit (log_after 2 reuse_then_drop) (get 2) 3 ≡ Some 1
  pub reused : holder (log_after 3 reuse_then_drop) 1 ≡ Some 2
  pub dropped : open_connections (log_after 4 reuse_then_drop) ≡ []
  pub legal : IsLegal (limits 1) (log_after 4 reuse_then_drop)
  pub quiet : IsQuiet (limits 1) false (log_after 4 reuse_then_drop)

-- of two idle connections the newest is leased, and the other one is the oldest
abbrev pub newest_is_reused : List Entry
newest_is_reused =
    opened 1 for get 1 at 0
    ∷ opened 2 for get 2 at 0
    ∷ returned 1 with keep at 5
    ∷ returned 2 with keep at 9
    ∷ leased 2 to get 3 at 9
    ∷ []

-- the transfer holds that connection, with what it wanted
infix 80 ◌of◌
abbrev pub ◌of◌ : ℕ → Want → Holding
c of want = record { connection = c; want = want }

pub record NewestIsReused : Type 0 where
  pub both_held : holdings (log_after 2 newest_is_reused) ≡ (2 of get 2) ∷ (1 of get 1) ∷ []
  pub one_held : holdings (log_after 3 newest_is_reused) ≡ (2 of get 2) ∷ []
  pub none_held : held_number (log_after 4 newest_is_reused) 2 ≡ None
  pub both_idle : idle_connections (log_after 4 newest_is_reused) ≡ 2 ∷ 1 ∷ []
  pub newest : newest_fit (log_after 4 newest_is_reused) (get 3) 9 ≡ Some 2
  pub longest_idle : oldest (log_after 4 newest_is_reused) ≡ Some 1
  pub reused : holder (log_after 5 newest_is_reused) 2 ≡ Some 3
  pub holds_it : held_number (log_after 5 newest_is_reused) 3 ≡ Some 2
  pub left_idle : idle_connections (log_after 5 newest_is_reused) ≡ 1 ∷ []
  pub legal : IsLegal (limits 4) (log_after 5 newest_is_reused)
  pub quiet : IsQuiet (limits 4) false (log_after 5 newest_is_reused)

-- a connection that came back with close is owed its closing, and nothing else may come first
abbrev pub not_persistent_at_the_limit : List Entry
not_persistent_at_the_limit =
    opened 1 for get 1 at 0
    ∷ returned 1 with close at 2
    ∷ closed 1 for NotPersistent at 2
    ∷ []

pub record NotPersistentAtTheLimit : Type 0 where
  pub close_owed : owed (log_after 2 not_persistent_at_the_limit) ≡ Some (1, NotPersistent)
  pub unsettled : IsQuiet (limits 1) false (log_after 2 not_persistent_at_the_limit) → ⊥
  pub no_lease : IsLegal (limits 1) (leased 1 to get 2 at 2 ∷ log_after 2 not_persistent_at_the_limit) → ⊥
  pub none_open : open_connections (log_after 3 not_persistent_at_the_limit) ≡ []
  pub legal : IsLegal (limits 1) (log_after 3 not_persistent_at_the_limit)
  pub quiet : IsQuiet (limits 1) false (log_after 3 not_persistent_at_the_limit)

-- idle for exactly the age that the want allows, it fits
abbrev pub idle_as_long_as_the_age : List Entry
idle_as_long_as_the_age =
    opened 1 for get 1 at 0
    ∷ returned 1 with keep at 10
    ∷ leased 1 to get 2 at 128
    ∷ []

pub record IdleAsLongAsTheAge : Type 0 where
  pub not_too_old : is_too_old (log_after 2 idle_as_long_as_the_age) (get 2) 128 1 ≡ false
  pub fit : newest_fit (log_after 2 idle_as_long_as_the_age) (get 2) 128 ≡ Some 1
  pub legal : IsLegal (limits 4) (log_after 3 idle_as_long_as_the_age)

-- idle for one second longer, it is too old
abbrev pub idle_longer_than_the_age : List Entry
idle_longer_than_the_age =
    opened 1 for get 1 at 0
    ∷ returned 1 with keep at 10
    ∷ closed 1 for TooOld at 129
    ∷ opened 2 for get 2 at 129
    ∷ []

pub record IdleLongerThanTheAge : Type 0 where
  pub too_old : is_too_old (log_after 2 idle_longer_than_the_age) (get 2) 129 1 ≡ true
  pub none_fits : newest_fit (log_after 2 idle_longer_than_the_age) (get 2) 129 ≡ None
  pub no_lease : IsLegal (limits 4) (leased 1 to get 2 at 129 ∷ log_after 2 idle_longer_than_the_age) → ⊥
  pub new : open_connections (log_after 4 idle_longer_than_the_age) ≡ 2 ∷ []
  pub legal : IsLegal (limits 4) (log_after 4 idle_longer_than_the_age)

-- open for exactly the lifetime that the want allows, it fits
abbrev pub get_of_life_60 : Want
get_of_life_60 = record (get 2) { max_life = 60 }

abbrev pub as_old_as_the_lifetime : List Entry
as_old_as_the_lifetime =
    opened 1 for get 1 at 0
    ∷ returned 1 with keep at 60
    ∷ leased 1 to get_of_life_60 at 60
    ∷ []

pub record AsOldAsTheLifetime : Type 0 where
  pub not_too_old : is_too_old (log_after 2 as_old_as_the_lifetime) get_of_life_60 60 1 ≡ false
  pub fit : newest_fit (log_after 2 as_old_as_the_lifetime) get_of_life_60 60 ≡ Some 1
  pub legal : IsLegal (limits 4) (log_after 3 as_old_as_the_lifetime)

-- open for one second longer, it is too old
abbrev pub older_than_the_lifetime : List Entry
older_than_the_lifetime =
    opened 1 for get 1 at 0
    ∷ returned 1 with keep at 60
    ∷ closed 1 for TooOld at 61
    ∷ opened 2 for get_of_life_60 at 61
    ∷ []

pub record OlderThanTheLifetime : Type 0 where
  pub too_old : is_too_old (log_after 2 older_than_the_lifetime) get_of_life_60 61 1 ≡ true
  pub none_fits : newest_fit (log_after 2 older_than_the_lifetime) get_of_life_60 61 ≡ None
  pub new_born : born (log_after 4 older_than_the_lifetime) 2 ≡ 61
  pub legal : IsLegal (limits 4) (log_after 4 older_than_the_lifetime)

-- an idle connection of another lane does not fit, and at the limit it makes room
abbrev pub get_of_lane_1 : Want
get_of_lane_1 = record (get 2) { lane = 1 }

abbrev pub another_lane_at_the_host_limit : List Entry
another_lane_at_the_host_limit =
    opened 1 for get 1 at 0
    ∷ returned 1 with keep at 2
    ∷ closed 1 for HostRoom at 3
    ∷ opened 2 for get_of_lane_1 at 3
    ∷ []

pub record AnotherLaneAtTheHostLimit : Type 0 where
  pub none_fits : newest_fit (log_after 2 another_lane_at_the_host_limit) get_of_lane_1 3 ≡ None
  pub makes_room : oldest (log_after 2 another_lane_at_the_host_limit) ≡ Some 1
  pub no_room : IsLegal (limits 1) (opened 2 for get_of_lane_1 at 3 ∷ log_after 2 another_lane_at_the_host_limit) → ⊥
  pub new_lane : lane (log_after 4 another_lane_at_the_host_limit) 2 ≡ 1
  pub new : open_connections (log_after 4 another_lane_at_the_host_limit) ≡ 2 ∷ []
  pub legal : IsLegal (limits 1) (log_after 4 another_lane_at_the_host_limit)

-- a want that forbids reuse ends the use, and so does a response that was cut
abbrev pub forbidden_and_cut : List Entry
forbidden_and_cut =
    opened 1 for record (get 1) { forbid_reuse = true } at 0
    ∷ returned 1 with keep at 1
    ∷ closed 1 for Forbidden at 1
    ∷ opened 2 for get 2 at 2
    ∷ returned 2 with cut at 3
    ∷ closed 2 for Cut at 3
    ∷ []

pub record ForbiddenAndCut : Type 0 where
  pub was_forbidden : owed (log_after 2 forbidden_and_cut) ≡ Some (1, Forbidden)
  pub was_cut : owed (log_after 5 forbidden_and_cut) ≡ Some (2, Cut)
  pub none_open : open_connections (log_after 6 forbidden_and_cut) ≡ []
  pub legal : IsLegal (limits 4) (log_after 6 forbidden_and_cut)
  pub quiet : IsQuiet (limits 4) false (log_after 6 forbidden_and_cut)

-- a get that bears an earlier moment counts as of the log's last one, and finds it idle for no time
abbrev pub get_of_age_0 : Want
get_of_age_0 = record (get 2) { max_age = 0 }

abbrev pub moment_goes_back : List Entry
moment_goes_back =
    opened 1 for get 1 at 0
    ∷ returned 1 with keep at 20
    ∷ leased 1 to get_of_age_0 at 20
    ∷ []

pub record MomentGoesBack : Type 0 where
  pub fit : newest_fit (log_after 2 moment_goes_back) get_of_age_0 20 ≡ Some 1
  pub no_lease_before : IsLegal (limits 4) (leased 1 to get_of_age_0 at 15 ∷ log_after 2 moment_goes_back) → ⊥
  pub legal : IsLegal (limits 4) (log_after 3 moment_goes_back)

-- at the limit a transfer waits, and gets the connection as it comes back
abbrev pub wait_then_claim : List Entry
wait_then_claim =
    opened 1 for get 1 at 0
    ∷ waits get 2 at 5
    ∷ returned 1 with keep at 10
    ∷ leased 1 to get 2 at 10
    ∷ []

pub record WaitThenClaim : Type 0 where
  pub one_waits : waiting (log_after 2 wait_then_claim) ≡ get 2 ∷ []
  pub waits_quietly : IsQuiet (limits 1) false (log_after 2 wait_then_claim)
  pub beside_idle : IsQuiet (limits 1) false (log_after 3 wait_then_claim) → ⊥
  pub nobody_waits : waiting (log_after 4 wait_then_claim) ≡ []
  pub held : holder (log_after 4 wait_then_claim) 1 ≡ Some 2
  pub legal : IsLegal (limits 1) (log_after 4 wait_then_claim)
  pub quiet : IsQuiet (limits 1) false (log_after 4 wait_then_claim)

-- who came first is served first, and what is withdrawn makes room for the next
abbrev pub withdraw_a_grant : List Entry
withdraw_a_grant =
    opened 1 for get 1 at 0
    ∷ waits get 2 at 1
    ∷ waits get 3 at 2
    ∷ returned 1 with keep at 3
    ∷ leased 1 to get 2 at 3
    ∷ closed 1 for Withdrawn at 4
    ∷ opened 2 for get 3 at 4
    ∷ []

pub record WithdrawAGrant : Type 0 where
  pub both_wait : waiting (log_after 3 withdraw_a_grant) ≡ get 2 ∷ get 3 ∷ []
  pub not_the_second : IsLegal (limits 1) (leased 1 to get 3 at 3 ∷ log_after 4 withdraw_a_grant) → ⊥
  pub one_waits : waiting (log_after 5 withdraw_a_grant) ≡ get 3 ∷ []
  pub nobody_waits : waiting (log_after 7 withdraw_a_grant) ≡ []
  pub one_open : open_connections (log_after 7 withdraw_a_grant) ≡ 2 ∷ []
  pub stranger : is_held_by (log_after 7 withdraw_a_grant) 1 1 ≡ false
  pub withdrawn : holds (log_after 7 withdraw_a_grant) 2 ≡ false
  pub legal : IsLegal (limits 1) (log_after 7 withdraw_a_grant)
  pub quiet : IsQuiet (limits 1) false (log_after 7 withdraw_a_grant)

-- all that comes after moment 9 bears it at least
abbrev pub moments_clamped_per_host : List Entry
moments_clamped_per_host =
    opened 1 for get 1 at 9
    ∷ waits get 2 at 9
    ∷ closed 1 for Dropped at 9
    ∷ opened 2 for get 2 at 9
    ∷ closed 2 for Withdrawn at 9
    ∷ []

pub record MomentsClampedPerHost : Type 0 where
  pub one_waits : waiting (log_after 2 moments_clamped_per_host) ≡ get 2 ∷ []
  pub new_born : born (log_after 4 moments_clamped_per_host) 2 ≡ 9
  pub none_open : open_connections (log_after 5 moments_clamped_per_host) ≡ []
  pub nobody_waits : waiting (log_after 5 moments_clamped_per_host) ≡ []
  pub legal : IsLegal (limits 1) (log_after 5 moments_clamped_per_host)
  pub quiet : IsQuiet (limits 1) false (log_after 5 moments_clamped_per_host)

-- a limit that is raised lets the first one start, and what is open keeps it from being lowered again
abbrev pub limit_raised : List Entry
limit_raised =
    opened 1 for get 1 at 0
    ∷ waits get 2 at 1
    ∷ waits get 3 at 2
    ∷ limit 2 at 5
    ∷ opened 2 for get 2 at 5
    ∷ returned 1 with keep at 7
    ∷ leased 1 to get 3 at 7
    ∷ []

pub record LimitRaised : Type 0 where
  pub first_limit : limit_in_force (limits 1) (log_after 3 limit_raised) ≡ 1
  pub new_limit : limit_in_force (limits 1) (log_after 5 limit_raised) ≡ 2
  pub beside_room : IsQuiet (limits 1) false (log_after 4 limit_raised) → ⊥
  pub queued : IsQuiet (limits 1) true (log_after 4 limit_raised)
  pub two_open : open_connections (log_after 5 limit_raised) ≡ 2 ∷ 1 ∷ []
  pub waits_quietly : IsQuiet (limits 1) false (log_after 5 limit_raised)
  pub too_low : IsLegal (limits 1) (limit 1 at 6 ∷ log_after 5 limit_raised) → ⊥
  pub nobody_waits : waiting (log_after 7 limit_raised) ≡ []
  pub legal : IsLegal (limits 1) (log_after 7 limit_raised)

-- before a limit is lowered the oldest idle connections make room; of two idle since one moment the one of the
-- lower number goes first
abbrev pub limit_lowered : List Entry
limit_lowered =
    opened 1 for get 1 at 0
    ∷ opened 2 for get 2 at 0
    ∷ opened 3 for get 3 at 0
    ∷ returned 2 with keep at 4
    ∷ returned 1 with keep at 4
    ∷ closed 1 for HostRoom at 6
    ∷ limit 2 at 6
    ∷ limit 3 at 8
    ∷ opened 4 for get 4 at 8
    ∷ []

pub record LimitLowered : Type 0 where
  pub both_idle : idle_in_order (log_after 5 limit_lowered) ≡ 1 ∷ 2 ∷ []
  pub longest_idle : oldest (log_after 5 limit_lowered) ≡ Some 1
  pub too_low : IsLegal (limits 4) (limit 2 at 6 ∷ log_after 5 limit_lowered) → ⊥
  pub left_idle : idle_in_order (log_after 6 limit_lowered) ≡ 2 ∷ []
  pub lowered : limit_in_force (limits 4) (log_after 7 limit_lowered) ≡ 2
  pub no_room : IsLegal (limits 4) (opened 4 for get 4 at 8 ∷ log_after 7 limit_lowered) → ⊥
  pub raised : limit_in_force (limits 4) (log_after 9 limit_lowered) ≡ 3
  pub legal : IsLegal (limits 4) (log_after 9 limit_lowered)
  pub quiet : IsQuiet (limits 4) false (log_after 9 limit_lowered)

-- what is left of these logs once they are cut: of the two idle ones each; of a held one its holder's want; of
-- waits those that still wait; of a closed one nothing but that its number was used; and of limits the last
abbrev pub known : ℕ → ℕ → Option Facts → Option Want → OpenConnection
known born_at back_at facts holder = record { lane = 0; born = born_at; since = back_at; facts = facts; holder = holder }

pub record CutLogs : Type 0 where
  pub both_idle : (summary (log_after 4 newest_is_reused)).connections ≡ (1, known 0 5 (Some keep) None) ∷ (2, known 0 9 (Some keep) None) ∷ []
  pub one_held : (summary (log_after 5 newest_is_reused)).connections ≡ (1, known 0 5 (Some keep) None) ∷ (2, known 0 9 (Some keep) (Some (get 3))) ∷ []
  pub both_wait : (summary (log_after 3 withdraw_a_grant)).waiting ≡ get 2 ∷ get 3 ∷ []
  pub one_waits : (summary (log_after 5 withdraw_a_grant)).waiting ≡ get 3 ∷ []
  pub none_open : (summary (log_after 4 reuse_then_drop)).connections ≡ []
  pub number_used : (summary (log_after 4 reuse_then_drop)).greatest ≡ 1
  pub last : (summary (log_after 4 reuse_then_drop)).last_moment ≡ 4
  pub no_limit : (summary (log_after 3 limit_raised)).limit ≡ None
  pub new_limit : (summary (log_after 7 limit_raised)).limit ≡ Some 2
  pub counted : (summary (log_after 7 withdraw_a_grant)).counts ≡ record { opened = 2; reused = 1; closed = 1; waited = 2 }
  pub still_open : open_behind (summary (log_after 3 limit_raised)) (limit 2 at 5 ∷ []) ≡ 1 ∷ []
  pub opened_later : open_behind (summary (log_after 3 limit_raised)) (opened 2 for get 2 at 5 ∷ limit 2 at 5 ∷ []) ≡ 2 ∷ 1 ∷ []
  pub closed_later : open_behind (summary (log_after 4 newest_is_reused)) (closed 1 for HostRoom at 9 ∷ []) ≡ 2 ∷ []
  pub holder_kept : holder_behind (summary (log_after 5 newest_is_reused)) [] 2 ≡ Some 3
  pub came_back : holder_behind (summary (log_after 5 newest_is_reused)) (returned 2 with keep at 11 ∷ []) 2 ≡ None
  pub longest_idle : oldest_stamp_behind (summary (log_after 4 newest_is_reused)) (leased 1 to get 3 at 9 ∷ []) 7 ≡ Some (record { since = 9; host = 7; number = 2 })
