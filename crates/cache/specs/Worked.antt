-- What calls of a pool answer in small scripts over several hosts: each log is what the transcript has of its host,
-- oldest first.
use Rattle.std.specs.Prelude.{◌≡◌, ℕ, true, false, List, [], ◌∷◌, ◌++◌, map, replicate, reverse, take, Some, None}
use Rattle.persistence.specs.declared.facts.Facts.{Facts}
use Rattle.budget.specs.Limits.{Bounds, bounds_of}
use Rattle.budget.specs.declared.refusal.Refusal.TheVariants.{TransferBusy, BadLimit, Busy}
use Rattle.conn_log.specs.declared.entry.Want.{Want}
use Rattle.conn_log.specs.declared.entry.Cause.TheVariants.{HostRoom, TotalRoom, CacheFull, Dropped, Withdrawn, Pruned}
use Rattle.conn_log.specs.declared.entry.Entry.{Entry}
use Rattle.conn_log.specs.Worked.{opened◌for◌at◌, leased◌to◌at◌, returned◌with◌at◌, closed◌for◌at◌, waits◌at◌, limit◌at◌, get, get_of_lane_1, keep, limit_raised}
use Rattle.host_state.specs.Calls.{starts, is_queued, refusal, limit_refusal, last_start}
use Rattle.host_state.specs.Counts.{snapshot_of}
use Rattle.cache.specs.AllHosts.{AllHosts, log_at, terms}
use Rattle.cache.specs.Calls.{after_acquire, reply_of, after_giving_back, after_abandoning, after_withdrawing, after_prune, prune_count, after_limit_of}

-- what is called: of a connection or a transfer, at a host, at a moment
pub data Call : Type 0 where
  acquire : Want → ℕ → ℕ → Call
  give_back : ℕ → ℕ → Facts → ℕ → Call
  abandon : ℕ → ℕ → ℕ → Call
  withdraw : ℕ → ℕ → ℕ → Call
  prune : ℕ → ℕ → ℕ → Call
  set_limit : ℕ → ℕ → ℕ → Call

infix 80 acquires◌at_host◌at◌
abbrev pub acquires◌at_host◌at◌ : Want → ℕ → ℕ → Call
acquires want at_host host at now = acquire want host now

infix 80 gives_back◌at_host◌with◌at◌
abbrev pub gives_back◌at_host◌with◌at◌ : ℕ → ℕ → Facts → ℕ → Call
gives_back c at_host host with facts at now = give_back c host facts now

infix 80 abandons◌at_host◌at◌
abbrev pub abandons◌at_host◌at◌ : ℕ → ℕ → ℕ → Call
abandons c at_host host at now = abandon c host now

infix 80 withdraws◌at_host◌at◌
abbrev pub withdraws◌at_host◌at◌ : ℕ → ℕ → ℕ → Call
withdraws transfer at_host host at now = withdraw transfer host now

infix 80 prunes◌life◌at◌
abbrev pub prunes◌life◌at◌ : ℕ → ℕ → ℕ → Call
prunes max_age life max_life at now = prune max_age max_life now

infix 80 limits_to◌at_host◌at◌
abbrev pub limits_to◌at_host◌at◌ : ℕ → ℕ → ℕ → Call
limits_to n at_host host at now = set_limit n host now

-- all hosts after a call, and after each of these in turn
abbrev pub after_call : Bounds → Call → AllHosts → AllHosts
after_call limits (acquire want host now) all = after_acquire limits host want now all
after_call limits (give_back c host facts now) all = after_giving_back limits host c facts now all
after_call limits (abandon c host now) all = after_abandoning limits host c now all
after_call limits (withdraw transfer host now) all = after_withdrawing limits host transfer now all
after_call limits (prune max_age max_life now) all = after_prune limits now max_age max_life all
after_call limits (set_limit n host now) all = after_limit_of limits host n now all

abbrev pub after_calls : Bounds → List Call → AllHosts → AllHosts
after_calls limits [] all = all
after_calls limits (call ∷ calls) all = after_calls limits calls (after_call limits call all)

-- so many hosts without connections, and all hosts after the first of these calls
abbrev pub new_hosts : ℕ → AllHosts
new_hosts hosts = record { logs = replicate hosts []; queue = [] }

abbrev pub after : ℕ → ℕ → Bounds → List Call → AllHosts
after first hosts limits calls = after_calls limits (take first calls) (new_hosts hosts)

-- hosts with these logs, and these of them queued
abbrev pub hosts_of : List (List Entry) → List ℕ → AllHosts
hosts_of transcripts queue = record { logs = map (λ (transcript : List Entry). reverse transcript) transcripts; queue = queue }

-- two connections are idle at two hosts, and the total is at its limit: of all the one idle for the longest makes room
abbrev pub two_idle : List Call
two_idle =
    acquires get 1 at_host 0 at 0
    ∷ acquires get 2 at_host 1 at 0
    ∷ gives_back 1 at_host 0 with keep at 5
    ∷ gives_back 1 at_host 1 with keep at 6
    ∷ acquires get 3 at_host 2 at 7
    ∷ []

abbrev pub idle_at_once : List Call
idle_at_once =
    acquires get 1 at_host 0 at 0
    ∷ acquires get 2 at_host 1 at 0
    ∷ gives_back 1 at_host 1 with keep at 5
    ∷ gives_back 1 at_host 0 with keep at 5
    ∷ acquires get 3 at_host 2 at 7
    ∷ []

abbrev pub made_room_at_0 : List Entry
made_room_at_0 = opened 1 for get 1 at 0 ∷ returned 1 with keep at 5 ∷ closed 1 for TotalRoom at 7 ∷ []

abbrev pub opened_at_2 : List Entry
opened_at_2 = opened 1 for get 3 at 7 ∷ []

pub record OldestOfAllMakesRoom : Type 0 where
  pub idle_longest : after 5 3 (bounds_of 0 2 4) two_idle ≡ hosts_of (made_room_at_0 ∷ (opened 1 for get 2 at 0 ∷ returned 1 with keep at 6 ∷ []) ∷ opened_at_2 ∷ []) []
  pub lower_host : after 5 3 (bounds_of 0 2 4) idle_at_once ≡ hosts_of (made_room_at_0 ∷ (opened 1 for get 2 at 0 ∷ returned 1 with keep at 5 ∷ []) ∷ opened_at_2 ∷ []) []

-- a transfer waits for the total, and its host is queued; what comes back at another host makes room for it
abbrev pub waits_for_the_total : List Call
waits_for_the_total =
    acquires get 1 at_host 0 at 0
    ∷ acquires get 2 at_host 1 at 1
    ∷ gives_back 1 at_host 0 with keep at 3
    ∷ []

pub record RoomForAQueuedHost : Type 0 where
  pub queued : after 2 2 (bounds_of 0 1 4) waits_for_the_total ≡ hosts_of ((opened 1 for get 1 at 0 ∷ []) ∷ (waits get 2 at 1 ∷ []) ∷ []) (1 ∷ [])
  pub look : (let all = after 2 2 (bounds_of 0 1 4) waits_for_the_total in snapshot_of (log_at all 1) (is_queued (terms (bounds_of 0 1 4)) (log_at all 1))) ≡ record { alive = 0; idle = 0; leased = 0; waiting = 1; queued = true }
  pub served : after 3 2 (bounds_of 0 1 4) waits_for_the_total ≡ hosts_of ((opened 1 for get 1 at 0 ∷ returned 1 with keep at 3 ∷ closed 1 for TotalRoom at 3 ∷ []) ∷ (waits get 2 at 1 ∷ opened 1 for get 2 at 3 ∷ []) ∷ []) []
  pub granted : last_start (log_at (after 3 2 (bounds_of 0 1 4) waits_for_the_total) 1) 2 ≡ Some (record { number = 1; want = get 2; moment = 3; reused = false })

-- one may be kept: the one that is idle is closed, and then the other one is kept
abbrev pub two_come_back : List Call
two_come_back =
    acquires get 1 at_host 0 at 0
    ∷ acquires get 2 at_host 0 at 0
    ∷ gives_back 1 at_host 0 with keep at 4
    ∷ gives_back 2 at_host 0 with keep at 5
    ∷ []

-- the same of two hosts: the moment at which the other one's is closed is that of its own log
abbrev pub two_come_back_apart : List Call
two_come_back_apart =
    acquires get 1 at_host 1 at 0
    ∷ acquires get 2 at_host 0 at 0
    ∷ gives_back 1 at_host 1 with keep at 9
    ∷ gives_back 1 at_host 0 with keep at 5
    ∷ []

pub record FullCacheClosesTheOldest : Type 0 where
  pub one_host : after 4 1 (bounds_of 0 0 1) two_come_back ≡ hosts_of ((opened 1 for get 1 at 0 ∷ opened 2 for get 2 at 0 ∷ returned 1 with keep at 4 ∷ closed 1 for CacheFull at 5 ∷ returned 2 with keep at 5 ∷ []) ∷ []) []
  pub another_host : after 4 2 (bounds_of 0 0 1) two_come_back_apart ≡ hosts_of ((opened 1 for get 2 at 0 ∷ returned 1 with keep at 5 ∷ []) ∷ (opened 1 for get 1 at 0 ∷ returned 1 with keep at 9 ∷ closed 1 for CacheFull at 9 ∷ []) ∷ []) []

-- at the limit of the host its own oldest makes room
abbrev pub another_lane : List Call
another_lane =
    acquires get 1 at_host 0 at 0
    ∷ gives_back 1 at_host 0 with keep at 2
    ∷ acquires get_of_lane_1 at_host 0 at 3
    ∷ []

pub record AnotherLaneAtTheHostLimit : Type 0 where
  pub made_room : after 3 1 (bounds_of 1 0 4) another_lane ≡ hosts_of ((opened 1 for get 1 at 0 ∷ returned 1 with keep at 2 ∷ closed 1 for HostRoom at 3 ∷ opened 2 for get_of_lane_1 at 3 ∷ []) ∷ []) []
  pub at_the_total : after 3 1 (bounds_of 0 1 4) another_lane ≡ hosts_of ((opened 1 for get 1 at 0 ∷ returned 1 with keep at 2 ∷ closed 1 for TotalRoom at 3 ∷ opened 2 for get_of_lane_1 at 3 ∷ []) ∷ []) []

-- a transfer that holds a connection is busy
abbrev pub one_get : List Call
one_get = acquires get 1 at_host 0 at 0 ∷ []

pub record BusyTransfer : Type 0 where
  pub opens : after 1 1 (bounds_of 0 0 4) one_get ≡ hosts_of ((opened 1 for get 1 at 0 ∷ []) ∷ []) []
  pub reply : reply_of (bounds_of 0 0 4) 0 (get 1) 0 (new_hosts 1) ≡ starts (record { number = 1; want = get 1; moment = 0; reused = false })
  pub is_busy : refusal (terms (bounds_of 0 0 4)) (log_at (after 1 1 (bounds_of 0 0 4) one_get) 0) [] (get 1) ≡ Some TransferBusy
  pub no_other_is : refusal (terms (bounds_of 0 0 4)) (log_at (after 1 1 (bounds_of 0 0 4) one_get) 0) [] (get 2) ≡ None

-- a prune closes what is idle for longer than 3 seconds; without it the newest is reused
abbrev pub two_idle_since_5_and_9 : List Call
two_idle_since_5_and_9 =
    acquires get 1 at_host 0 at 0
    ∷ acquires get 2 at_host 0 at 0
    ∷ gives_back 1 at_host 0 with keep at 5
    ∷ gives_back 2 at_host 0 with keep at 9
    ∷ []

abbrev pub both_idle : List Entry
both_idle = opened 1 for get 1 at 0 ∷ opened 2 for get 2 at 0 ∷ returned 1 with keep at 5 ∷ returned 2 with keep at 9 ∷ []

-- the same of two hosts, pruned at 13
abbrev pub idle_at_two_hosts : List Call
idle_at_two_hosts =
    acquires get 1 at_host 0 at 0
    ∷ acquires get 2 at_host 1 at 0
    ∷ gives_back 1 at_host 0 with keep at 5
    ∷ gives_back 1 at_host 1 with keep at 9
    ∷ prunes 3 life 0 at 13
    ∷ []

pub record PrunesAllHosts : Type 0 where
  pub one_is_old : after_calls (bounds_of 0 0 4) (prunes 3 life 0 at 9 ∷ []) (after 4 1 (bounds_of 0 0 4) two_idle_since_5_and_9) ≡ hosts_of ((both_idle ++ closed 1 for Pruned at 9 ∷ []) ∷ []) []
  pub one_closed : prune_count 9 3 0 (after 4 1 (bounds_of 0 0 4) two_idle_since_5_and_9) ≡ 1
  pub newest_reused : after_calls (bounds_of 0 0 4) (acquires get 3 at_host 0 at 9 ∷ []) (after 4 1 (bounds_of 0 0 4) two_idle_since_5_and_9) ≡ hosts_of ((both_idle ++ leased 2 to get 3 at 9 ∷ []) ∷ []) []
  pub each_host : after 5 2 (bounds_of 0 0 4) idle_at_two_hosts ≡ hosts_of ((opened 1 for get 1 at 0 ∷ returned 1 with keep at 5 ∷ closed 1 for Pruned at 13 ∷ []) ∷ (opened 1 for get 2 at 0 ∷ returned 1 with keep at 9 ∷ closed 1 for Pruned at 13 ∷ []) ∷ []) []
  pub both_closed : prune_count 13 3 0 (after 4 2 (bounds_of 0 0 4) idle_at_two_hosts) ≡ 2

-- two hosts are queued; what is closed by its holder, or withdrawn, goes to the next that waits at the host, and where
-- nobody does to the first host in the queue
abbrev pub drop_and_leave : List Call
drop_and_leave =
    acquires get 1 at_host 0 at 0
    ∷ acquires get 2 at_host 1 at 1
    ∷ acquires get 3 at_host 1 at 2
    ∷ acquires get 4 at_host 2 at 3
    ∷ abandons 1 at_host 0 at 5
    ∷ withdraws 2 at_host 1 at 6
    ∷ withdraws 3 at_host 1 at 7
    ∷ []

abbrev pub dropped_at_0 : List Entry
dropped_at_0 = opened 1 for get 1 at 0 ∷ closed 1 for Dropped at 5 ∷ []

abbrev pub two_withdrawn : List Entry
two_withdrawn =
    waits get 2 at 1
    ∷ waits get 3 at 2
    ∷ opened 1 for get 2 at 5
    ∷ closed 1 for Withdrawn at 6
    ∷ opened 2 for get 3 at 6
    ∷ closed 2 for Withdrawn at 7
    ∷ []

pub record FreedPermitsGoOn : Type 0 where
  pub two_queued : after 4 3 (bounds_of 0 1 4) drop_and_leave ≡ hosts_of (take 1 dropped_at_0 ∷ take 2 two_withdrawn ∷ (waits get 4 at 3 ∷ []) ∷ []) (1 ∷ 2 ∷ [])
  pub dropped : after 5 3 (bounds_of 0 1 4) drop_and_leave ≡ hosts_of (dropped_at_0 ∷ take 3 two_withdrawn ∷ (waits get 4 at 3 ∷ []) ∷ []) (2 ∷ 1 ∷ [])
  pub first_withdrawn : after 6 3 (bounds_of 0 1 4) drop_and_leave ≡ hosts_of (dropped_at_0 ∷ take 5 two_withdrawn ∷ (waits get 4 at 3 ∷ []) ∷ []) (2 ∷ [])
  pub second_withdrawn : after 7 3 (bounds_of 0 1 4) drop_and_leave ≡ hosts_of (dropped_at_0 ∷ two_withdrawn ∷ (waits get 4 at 3 ∷ opened 1 for get 4 at 7 ∷ []) ∷ []) []

-- two hosts are queued with two transfers each, and take turns
abbrev pub four_wait_at_two_hosts : List Call
four_wait_at_two_hosts =
    acquires get 1 at_host 0 at 0
    ∷ acquires get 2 at_host 0 at 0
    ∷ acquires get 3 at_host 0 at 0
    ∷ acquires get 4 at_host 0 at 0
    ∷ acquires get 5 at_host 1 at 1
    ∷ acquires get 6 at_host 1 at 1
    ∷ acquires get 7 at_host 2 at 1
    ∷ acquires get 8 at_host 2 at 1
    ∷ abandons 1 at_host 0 at 2
    ∷ gives_back 2 at_host 0 with keep at 3
    ∷ abandons 3 at_host 0 at 4
    ∷ gives_back 4 at_host 0 with keep at 5
    ∷ []

abbrev pub four_gone : List Entry
four_gone =
    opened 1 for get 1 at 0
    ∷ opened 2 for get 2 at 0
    ∷ opened 3 for get 3 at 0
    ∷ opened 4 for get 4 at 0
    ∷ closed 1 for Dropped at 2
    ∷ returned 2 with keep at 3
    ∷ closed 2 for TotalRoom at 3
    ∷ closed 3 for Dropped at 4
    ∷ returned 4 with keep at 5
    ∷ closed 4 for TotalRoom at 5
    ∷ []

abbrev pub two_turns_at_1 : List Entry
two_turns_at_1 = waits get 5 at 1 ∷ waits get 6 at 1 ∷ opened 1 for get 5 at 2 ∷ opened 2 for get 6 at 4 ∷ []

abbrev pub two_turns_at_2 : List Entry
two_turns_at_2 = waits get 7 at 1 ∷ waits get 8 at 1 ∷ opened 1 for get 7 at 3 ∷ opened 2 for get 8 at 5 ∷ []

pub record HostsTakeTurns : Type 0 where
  pub all_wait : after 8 3 (bounds_of 0 4 4) four_wait_at_two_hosts ≡ hosts_of (take 4 four_gone ∷ take 2 two_turns_at_1 ∷ take 2 two_turns_at_2 ∷ []) (1 ∷ 2 ∷ [])
  pub first : after 9 3 (bounds_of 0 4 4) four_wait_at_two_hosts ≡ hosts_of (take 5 four_gone ∷ take 3 two_turns_at_1 ∷ take 2 two_turns_at_2 ∷ []) (2 ∷ 1 ∷ [])
  pub second : after 10 3 (bounds_of 0 4 4) four_wait_at_two_hosts ≡ hosts_of (take 7 four_gone ∷ take 3 two_turns_at_1 ∷ take 3 two_turns_at_2 ∷ []) (1 ∷ 2 ∷ [])
  pub third : after 11 3 (bounds_of 0 4 4) four_wait_at_two_hosts ≡ hosts_of (take 8 four_gone ∷ two_turns_at_1 ∷ take 3 two_turns_at_2 ∷ []) (2 ∷ [])
  pub fourth : after 12 3 (bounds_of 0 4 4) four_wait_at_two_hosts ≡ hosts_of (four_gone ∷ two_turns_at_1 ∷ two_turns_at_2 ∷ []) []

-- a limit is raised, and a lowered one refused below what is held
abbrev pub raised_limit : List Call
raised_limit =
    acquires get 1 at_host 0 at 0
    ∷ acquires get 2 at_host 0 at 1
    ∷ acquires get 3 at_host 0 at 2
    ∷ limits_to 2 at_host 0 at 5
    ∷ gives_back 1 at_host 0 with keep at 7
    ∷ []

pub record RaisedLimit : Type 0 where
  pub two_wait : after 3 1 (bounds_of 1 0 4) raised_limit ≡ hosts_of (take 3 limit_raised ∷ []) []
  pub raised : after 4 1 (bounds_of 1 0 4) raised_limit ≡ hosts_of (take 5 limit_raised ∷ []) []
  pub busy : limit_refusal 1 (log_at (after 4 1 (bounds_of 1 0 4) raised_limit) 0) ≡ Some (Busy 2)
  pub back : after 5 1 (bounds_of 1 0 4) raised_limit ≡ hosts_of (limit_raised ∷ []) []

-- a limit is lowered: the oldest idle connection of the host makes room
abbrev pub lowered_limit : List Call
lowered_limit =
    acquires get 1 at_host 0 at 0
    ∷ acquires get 2 at_host 0 at 0
    ∷ acquires get 3 at_host 0 at 0
    ∷ gives_back 1 at_host 0 with keep at 4
    ∷ gives_back 2 at_host 0 with keep at 5
    ∷ limits_to 2 at_host 0 at 6
    ∷ []

pub record LoweredLimit : Type 0 where
  pub lowered : after 6 1 (bounds_of 0 0 4) lowered_limit ≡ hosts_of ((opened 1 for get 1 at 0 ∷ opened 2 for get 2 at 0 ∷ opened 3 for get 3 at 0 ∷ returned 1 with keep at 4 ∷ returned 2 with keep at 5 ∷ closed 1 for HostRoom at 6 ∷ limit 2 at 6 ∷ []) ∷ []) []
  pub too_great : limit_refusal 65536 (log_at (after 6 1 (bounds_of 0 0 4) lowered_limit) 0) ≡ Some BadLimit
  pub look : (let all = after 6 1 (bounds_of 0 0 4) lowered_limit in snapshot_of (log_at all 0) (is_queued (terms (bounds_of 0 0 4)) (log_at all 0))) ≡ record { alive = 2; idle = 1; leased = 1; waiting = 0; queued = false }

-- a limit is raised where the total has no room: the host is queued until another one's comes back
abbrev pub raised_without_room : List Call
raised_without_room =
    acquires get 1 at_host 0 at 0
    ∷ acquires get 2 at_host 0 at 1
    ∷ acquires get 3 at_host 1 at 1
    ∷ limits_to 2 at_host 0 at 2
    ∷ gives_back 1 at_host 1 with keep at 3
    ∷ []

abbrev pub opened_once_it_has_room : List Entry
opened_once_it_has_room = opened 1 for get 1 at 0 ∷ waits get 2 at 1 ∷ limit 2 at 2 ∷ opened 2 for get 2 at 3 ∷ []

pub record RaisedWithoutRoom : Type 0 where
  pub queued : after 4 2 (bounds_of 1 2 4) raised_without_room ≡ hosts_of (take 3 opened_once_it_has_room ∷ (opened 1 for get 3 at 1 ∷ []) ∷ []) (0 ∷ [])
  pub served : after 5 2 (bounds_of 1 2 4) raised_without_room ≡ hosts_of (opened_once_it_has_room ∷ (opened 1 for get 3 at 1 ∷ returned 1 with keep at 3 ∷ closed 1 for TotalRoom at 3 ∷ []) ∷ []) []

-- three wait at a host that may have one; its limit is raised to 4. The total has room for one of them; for the others
-- connections that are idle at two other hosts make room, in two turns
abbrev pub raised_for_three : List Call
raised_for_three =
    acquires get 1 at_host 0 at 0
    ∷ acquires get 2 at_host 0 at 1
    ∷ acquires get 3 at_host 0 at 2
    ∷ acquires get 4 at_host 0 at 3
    ∷ acquires get 5 at_host 1 at 4
    ∷ acquires get 6 at_host 2 at 4
    ∷ gives_back 1 at_host 2 with keep at 5
    ∷ gives_back 1 at_host 1 with keep at 6
    ∷ limits_to 4 at_host 0 at 7
    ∷ []

abbrev pub three_wait : List Entry
three_wait = opened 1 for get 1 at 0 ∷ waits get 2 at 1 ∷ waits get 3 at 2 ∷ waits get 4 at 3 ∷ []

abbrev pub idle_since_6 : List Entry
idle_since_6 = opened 1 for get 5 at 4 ∷ returned 1 with keep at 6 ∷ []

abbrev pub idle_since_5 : List Entry
idle_since_5 = opened 1 for get 6 at 4 ∷ returned 1 with keep at 5 ∷ []

pub record RaisedWithSeveralTurns : Type 0 where
  pub not_queued : after 8 3 (bounds_of 1 4 4) raised_for_three ≡ hosts_of (three_wait ∷ idle_since_6 ∷ idle_since_5 ∷ []) []
  pub two_turns : after 9 3 (bounds_of 1 4 4) raised_for_three ≡ hosts_of ((three_wait ++ limit 4 at 7 ∷ opened 2 for get 2 at 7 ∷ opened 3 for get 3 at 7 ∷ opened 4 for get 4 at 7 ∷ []) ∷ (idle_since_6 ++ closed 1 for TotalRoom at 7 ∷ []) ∷ (idle_since_5 ++ closed 1 for TotalRoom at 7 ∷ []) ∷ []) []
  pub no_room_for_the_last : after 9 3 (bounds_of 1 3 4) raised_for_three ≡ hosts_of ((three_wait ++ limit 4 at 7 ∷ opened 2 for get 2 at 7 ∷ opened 3 for get 3 at 7 ∷ []) ∷ (idle_since_6 ++ closed 1 for TotalRoom at 7 ∷ []) ∷ (idle_since_5 ++ closed 1 for TotalRoom at 7 ∷ []) ∷ []) (0 ∷ [])
