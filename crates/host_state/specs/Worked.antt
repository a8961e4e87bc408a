-- What calls answer on small logs: each command of a worked script takes its log from the transcript's
-- lines before the command to those after it, as the budget answers where it is asked.
use Rattle.std.specs.Prelude.{◌≡◌, ℕ, true, false, List, [], ◌∷◌, length, Some, None}
use Rattle.budget.specs.declared.permits.Try.TheVariants.{Got, Full, Contended}
use Rattle.budget.specs.declared.refusal.Refusal.TheVariants.{TransferBusy, Exhausted, BadLimit, Busy}
use Rattle.conn_log.specs.declared.entry.Want.{Want}
use Rattle.conn_log.specs.declared.entry.Cause.TheVariants.{NotPersistent, TooOld, HostRoom, TotalRoom, CacheFull, Pruned}
use Rattle.conn_log.specs.declared.entry.Event.TheVariants.{Left}
use Rattle.conn_log.specs.declared.entry.Entry.{Entry}
use Rattle.conn_log.specs.Fit.{oldest_stamp}
use Rattle.conn_log.specs.Legal.{LimitAndFirst, limit_in_force}
use Rattle.conn_log.specs.Worked.{opened◌for◌at◌, leased◌to◌at◌, returned◌with◌at◌, closed◌for◌at◌, waits◌at◌, limit◌at◌, log_after, get, get_of_age_0, get_of_life_60, get_of_lane_1, keep, close, cut, limits, busy_and_no_such_site, reuse_then_drop, newest_is_reused, not_persistent_at_the_limit, idle_as_long_as_the_age, idle_longer_than_the_age, as_old_as_the_lifetime, older_than_the_lifetime, another_lane_at_the_host_limit, forbidden_and_cut, moment_goes_back, wait_then_claim, withdraw_a_grant, moments_clamped_per_host, limit_raised, limit_lowered}
use Rattle.host_state.specs.Steps.{picked, without_picked}
use Rattle.host_state.specs.declared.closing.Closing.TheVariants.{Pruned as ForPrune}
use Rattle.host_state.specs.Calls.{Start, Reply, Acquired, acquired, given_back, after_abandon, after_withdraw, after_turn, after_limit, kept_limit, limit_refusal, starts_due, refusal, is_queued, is_freed, is_stranger, last_start, starts, waits_on, no_room, again, spent, not_kept, keep_again}

-- what an acquire comes to: the log after it, and its reply
abbrev pub comes_to : List Entry → Reply → Acquired
comes_to log reply = record { log = log; reply = reply }

-- the start of a transfer on a new connection, and on one that was idle; and its wait
abbrev pub on_new : ℕ → Want → ℕ → Start
on_new c want moment = record { number = c; want = want; moment = moment; reused = false }

abbrev pub on_idle : ℕ → Want → ℕ → Start
on_idle c want moment = record { number = c; want = want; moment = moment; reused = true }

abbrev pub waits_since : Want → ℕ → Reply
waits_since want moment = waits_on (record { want = want; moment = moment })

-- get 1 at 0; a second get by transfer 1 is refused busy
pub record BusyAndNoSuchSiteCalls : Type 0 where
  pub first_get : acquired false Got (limits 4) [] (get 1) 0 ≡ comes_to (log_after 1 busy_and_no_such_site) (starts (on_new 1 (get 1) 0))
  pub second_get : refusal (limits 4) (log_after 1 busy_and_no_such_site) [] (get 1) ≡ Some TransferBusy
  pub another_get : refusal (limits 4) (log_after 1 busy_and_no_such_site) [] (get 2) ≡ None

-- get 1 at 0, back 1 keep at 2, get 2 at 3, drop 2 at 4
pub record ReuseThenDropCalls : Type 0 where
  pub first_get : acquired false Got (limits 1) [] (get 1) 0 ≡ comes_to (log_after 1 reuse_then_drop) (starts (on_new 1 (get 1) 0))
  pub back : given_back false Got (limits 1) (log_after 1 reuse_then_drop) 1 keep 2 ≡ spent (log_after 2 reuse_then_drop)
  pub accepted : refusal (limits 1) (log_after 2 reuse_then_drop) [] (get 2) ≡ None
  pub second_get : acquired false Got (limits 1) (log_after 2 reuse_then_drop) (get 2) 3 ≡ comes_to (log_after 3 reuse_then_drop) (starts (on_idle 1 (get 2) 3))
  pub no_stranger : is_stranger (log_after 3 reuse_then_drop) 2 1 ≡ false
  pub stranger : is_stranger (log_after 3 reuse_then_drop) 1 1 ≡ true
  pub dropped : after_abandon (limits 1) (log_after 3 reuse_then_drop) 1 4 ≡ log_after 4 reuse_then_drop
  pub freed : is_freed (log_after 3 reuse_then_drop) (log_after 4 reuse_then_drop) ≡ true

-- get 1 at 0, get 2 at 0, back 1 keep at 5, back 2 keep at 9, get 3 at 9
pub record NewestIsReusedCalls : Type 0 where
  pub first_get : acquired false Got (limits 4) [] (get 1) 0 ≡ comes_to (log_after 1 newest_is_reused) (starts (on_new 1 (get 1) 0))
  pub second_get : acquired false Got (limits 4) (log_after 1 newest_is_reused) (get 2) 0 ≡ comes_to (log_after 2 newest_is_reused) (starts (on_new 2 (get 2) 0))
  pub first_back : given_back false Got (limits 4) (log_after 2 newest_is_reused) 1 keep 5 ≡ spent (log_after 3 newest_is_reused)
  pub second_back : given_back false Got (limits 4) (log_after 3 newest_is_reused) 2 keep 9 ≡ spent (log_after 4 newest_is_reused)
  pub third_get : acquired false Got (limits 4) (log_after 4 newest_is_reused) (get 3) 9 ≡ comes_to (log_after 5 newest_is_reused) (starts (on_idle 2 (get 3) 9))

-- get 1 at 0, back 1 close at 2; where get 2 at 1 waits meanwhile, one is opened for it
pub record NotPersistentAtTheLimitCalls : Type 0 where
  pub first_get : acquired false Got (limits 1) [] (get 1) 0 ≡ comes_to (log_after 1 not_persistent_at_the_limit) (starts (on_new 1 (get 1) 0))
  pub back : given_back false Full (limits 1) (log_after 1 not_persistent_at_the_limit) 1 close 2 ≡ spent (log_after 3 not_persistent_at_the_limit)
  pub freed : is_freed (log_after 1 not_persistent_at_the_limit) (log_after 3 not_persistent_at_the_limit) ≡ true
  pub accepted : refusal (limits 1) (log_after 1 not_persistent_at_the_limit) [] (get 2) ≡ None
  pub second_get : acquired false Full (limits 1) (log_after 1 not_persistent_at_the_limit) (get 2) 1 ≡ comes_to (waits get 2 at 1 ∷ log_after 1 not_persistent_at_the_limit) (waits_since (get 2) 1)
  pub served :
      given_back false Full (limits 1) (waits get 2 at 1 ∷ log_after 1 not_persistent_at_the_limit) 1 close 2 ≡ spent (opened 2 for get 2 at 2 ∷ closed 1 for NotPersistent at 2 ∷ returned 1 with close at 2 ∷ waits get 2 at 1 ∷ log_after 1 not_persistent_at_the_limit)

-- back 1 keep at 10, get 2 at 128
pub record IdleAsLongAsTheAgeCalls : Type 0 where
  pub back : given_back false Got (limits 4) (log_after 1 idle_as_long_as_the_age) 1 keep 10 ≡ spent (log_after 2 idle_as_long_as_the_age)
  pub second_get : acquired false Got (limits 4) (log_after 2 idle_as_long_as_the_age) (get 2) 128 ≡ comes_to (log_after 3 idle_as_long_as_the_age) (starts (on_idle 1 (get 2) 128))

-- back 1 keep at 10, get 2 at 129 closes the idle connection as too old
pub record IdleLongerThanTheAgeCalls : Type 0 where
  pub back : given_back false Got (limits 4) (log_after 1 idle_longer_than_the_age) 1 keep 10 ≡ spent (log_after 2 idle_longer_than_the_age)
  pub second_get : acquired false Got (limits 4) (log_after 2 idle_longer_than_the_age) (get 2) 129 ≡ comes_to (log_after 4 idle_longer_than_the_age) (starts (on_new 2 (get 2) 129))

-- back 1 keep at 60, get 2 at 60 life 60
pub record AsOldAsTheLifetimeCalls : Type 0 where
  pub back : given_back false Got (limits 4) (log_after 1 as_old_as_the_lifetime) 1 keep 60 ≡ spent (log_after 2 as_old_as_the_lifetime)
  pub second_get : acquired false Got (limits 4) (log_after 2 as_old_as_the_lifetime) get_of_life_60 60 ≡ comes_to (log_after 3 as_old_as_the_lifetime) (starts (on_idle 1 get_of_life_60 60))

-- back 1 keep at 60, get 2 at 61 life 60 closes the idle connection as too old
pub record OlderThanTheLifetimeCalls : Type 0 where
  pub back : given_back false Got (limits 4) (log_after 1 older_than_the_lifetime) 1 keep 60 ≡ spent (log_after 2 older_than_the_lifetime)
  pub second_get : acquired false Got (limits 4) (log_after 2 older_than_the_lifetime) get_of_life_60 61 ≡ comes_to (log_after 4 older_than_the_lifetime) (starts (on_new 2 get_of_life_60 61))

-- back 1 keep at 2; get 2 of lane 1 at 3 closes the idle connection for room at the host
pub record AnotherLaneAtTheHostLimitCalls : Type 0 where
  pub back : given_back false Got (limits 1) (log_after 1 another_lane_at_the_host_limit) 1 keep 2 ≡ spent (log_after 2 another_lane_at_the_host_limit)
  pub accepted : refusal (limits 1) (log_after 2 another_lane_at_the_host_limit) [] get_of_lane_1 ≡ None
  pub second_get : acquired false Full (limits 1) (log_after 2 another_lane_at_the_host_limit) get_of_lane_1 3 ≡ comes_to (log_after 4 another_lane_at_the_host_limit) (starts (on_new 2 get_of_lane_1 3))

-- back 1 keep at 1 of a get that forbids reuse, get 2 at 2, back 2 cut at 3
pub record ForbiddenAndCutCalls : Type 0 where
  pub first_back : given_back false Got (limits 4) (log_after 1 forbidden_and_cut) 1 keep 1 ≡ spent (log_after 3 forbidden_and_cut)
  pub second_get : acquired false Got (limits 4) (log_after 3 forbidden_and_cut) (get 2) 2 ≡ comes_to (log_after 4 forbidden_and_cut) (starts (on_new 2 (get 2) 2))
  pub second_back : given_back false Got (limits 4) (log_after 4 forbidden_and_cut) 2 cut 3 ≡ spent (log_after 6 forbidden_and_cut)

-- back 1 keep at 20, get 2 at 15 age 0
pub record MomentGoesBackCalls : Type 0 where
  pub back : given_back false Got (limits 4) (log_after 1 moment_goes_back) 1 keep 20 ≡ spent (log_after 2 moment_goes_back)
  pub second_get : acquired false Got (limits 4) (log_after 2 moment_goes_back) get_of_age_0 15 ≡ comes_to (log_after 3 moment_goes_back) (starts (on_idle 1 get_of_age_0 20))

-- get 1 at 9, get 2 at 3, drop 1 at 1, leave 2 at 0
pub record MomentsClampedPerHostCalls : Type 0 where
  pub first_get : acquired false Got (limits 1) [] (get 1) 9 ≡ comes_to (log_after 1 moments_clamped_per_host) (starts (on_new 1 (get 1) 9))
  pub second_get : acquired false Got (limits 1) (log_after 1 moments_clamped_per_host) (get 2) 3 ≡ comes_to (log_after 2 moments_clamped_per_host) (waits_since (get 2) 9)
  pub dropped : after_abandon (limits 1) (log_after 2 moments_clamped_per_host) 1 1 ≡ log_after 4 moments_clamped_per_host
  pub left : after_withdraw (limits 1) (log_after 4 moments_clamped_per_host) 2 0 ≡ log_after 5 moments_clamped_per_host

-- get 1 at 0, get 2 at 5, back 1 keep at 10
pub record WaitThenClaimCalls : Type 0 where
  pub first_get : acquired false Got (limits 1) [] (get 1) 0 ≡ comes_to (log_after 1 wait_then_claim) (starts (on_new 1 (get 1) 0))
  pub second_get : acquired false Got (limits 1) (log_after 1 wait_then_claim) (get 2) 5 ≡ comes_to (log_after 2 wait_then_claim) (waits_since (get 2) 5)
  pub not_queued : is_queued (limits 1) (log_after 2 wait_then_claim) ≡ false
  pub waiting_is_busy : refusal (limits 1) (log_after 2 wait_then_claim) [] (get 2) ≡ Some TransferBusy
  pub back : given_back false Full (limits 1) (log_after 2 wait_then_claim) 1 keep 10 ≡ spent (log_after 4 wait_then_claim)
  pub granted : last_start (log_after 4 wait_then_claim) 2 ≡ Some (on_idle 1 (get 2) 10)
  pub granted_is_busy : refusal (limits 1) (log_after 4 wait_then_claim) [] (get 2) ≡ Some TransferBusy

-- get 1 at 0, get 2 at 1, get 3 at 2, back 1 keep at 3, leave 2 at 4; or leave 3 at 4 while it waits
pub record WithdrawAGrantCalls : Type 0 where
  pub second_get : acquired false Got (limits 1) (log_after 1 withdraw_a_grant) (get 2) 1 ≡ comes_to (log_after 2 withdraw_a_grant) (waits_since (get 2) 1)
  pub third_get : acquired false Got (limits 1) (log_after 2 withdraw_a_grant) (get 3) 2 ≡ comes_to (log_after 3 withdraw_a_grant) (waits_since (get 3) 2)
  pub back : given_back false Got (limits 1) (log_after 3 withdraw_a_grant) 1 keep 3 ≡ spent (log_after 5 withdraw_a_grant)
  pub granted_left : after_withdraw (limits 1) (log_after 5 withdraw_a_grant) 2 4 ≡ log_after 7 withdraw_a_grant
  pub not_freed : is_freed (log_after 5 withdraw_a_grant) (log_after 7 withdraw_a_grant) ≡ false
  pub waiting_left : after_withdraw (limits 1) (log_after 5 withdraw_a_grant) 3 4 ≡ record { moment = 4; event = Left 3 } ∷ log_after 5 withdraw_a_grant
  pub stranger : is_stranger (log_after 7 withdraw_a_grant) 1 1 ≡ true

-- get 1 at 0; a get that does not fit what comes back waits, and has one opened for it: for its lifetime, for its
-- lane at the limit of the host, and for its lane where the host has room
abbrev pub held_since_0 : List Entry
held_since_0 = opened 1 for get 1 at 0 ∷ []

pub record WhatDoesNotFit : Type 0 where
  pub too_old :
      given_back false Full (limits 1) (waits get_of_life_60 at 1 ∷ held_since_0) 1 keep 61 ≡ spent (opened 2 for get_of_life_60 at 61 ∷ closed 1 for TooOld at 61 ∷ returned 1 with keep at 61 ∷ waits get_of_life_60 at 1 ∷ held_since_0)
  pub old_enough :
      given_back false Full (limits 1) (waits get_of_life_60 at 1 ∷ held_since_0) 1 keep 60 ≡ spent (leased 1 to get_of_life_60 at 60 ∷ returned 1 with keep at 60 ∷ waits get_of_life_60 at 1 ∷ held_since_0)
  pub other_lane :
      given_back false Full (limits 1) (waits get_of_lane_1 at 1 ∷ held_since_0) 1 keep 2 ≡ spent (opened 2 for get_of_lane_1 at 2 ∷ closed 1 for HostRoom at 2 ∷ returned 1 with keep at 2 ∷ waits get_of_lane_1 at 1 ∷ held_since_0)
  pub with_room :
      given_back false Full (limits 4) (waits get_of_lane_1 at 1 ∷ held_since_0) 1 keep 2 ≡ spent (opened 2 for get_of_lane_1 at 2 ∷ closed 1 for TotalRoom at 2 ∷ returned 1 with keep at 2 ∷ waits get_of_lane_1 at 1 ∷ held_since_0)

-- a host whose first connection number is the last one there is, and one that has two; a number is kept for who
-- waits, and for whose acquire is halfway
abbrev pub last_one : LimitAndFirst
last_one = record { limit = 1; first = 4294967295 }

abbrev pub last_opened : List Entry
last_opened = opened 4294967295 for get 1 at 0 ∷ []

abbrev pub last_idle : List Entry
last_idle = returned 4294967295 with keep at 1 ∷ last_opened

abbrev pub last_two : LimitAndFirst
last_two = record { limit = 1; first = 4294967294 }

abbrev pub last_but_one_opened : List Entry
last_but_one_opened = opened 4294967294 for get 1 at 0 ∷ []

pub record NumbersRunOut : Type 0 where
  pub first_get : acquired false Got last_one [] (get 1) 0 ≡ comes_to last_opened (starts (on_new 4294967295 (get 1) 0))
  pub another_get : refusal last_one last_opened [] (get 2) ≡ Some Exhausted
  pub second_get : refusal last_one last_opened [] (get 1) ≡ Some TransferBusy
  pub back : given_back false Got last_one last_opened 4294967295 keep 1 ≡ spent last_idle
  pub once_idle : refusal last_one last_idle [] (get 2) ≡ Some Exhausted
  pub one_left : refusal last_two last_but_one_opened [] (get 2) ≡ None
  pub kept_for_who_waits : refusal last_two (waits get 2 at 1 ∷ last_but_one_opened) [] (get 3) ≡ Some Exhausted
  pub kept_for_who_is_halfway : refusal last_two last_but_one_opened (2 ∷ []) (get 3) ≡ Some Exhausted
  pub halfway_is_busy : refusal last_two last_but_one_opened (2 ∷ []) (get 2) ≡ Some TransferBusy

-- get 1 at 0, get 2 at 0, back 2 keep at 5, back 1 keep at 7, get 3 at 130: both are too old, and the one idle for
-- the longest is closed first
abbrev pub two_too_old : List Entry
two_too_old =
    opened 1 for get 1 at 0
    ∷ opened 2 for get 2 at 0
    ∷ returned 2 with keep at 5
    ∷ returned 1 with keep at 7
    ∷ closed 2 for TooOld at 130
    ∷ closed 1 for TooOld at 130
    ∷ opened 3 for get 3 at 130
    ∷ []

-- the same, with both idle since 5: the one of the lower number is closed first
abbrev pub two_too_old_since_one_moment : List Entry
two_too_old_since_one_moment =
    opened 1 for get 1 at 0
    ∷ opened 2 for get 2 at 0
    ∷ returned 2 with keep at 5
    ∷ returned 1 with keep at 5
    ∷ closed 1 for TooOld at 130
    ∷ closed 2 for TooOld at 130
    ∷ opened 3 for get 3 at 130
    ∷ []

pub record TwoTooOld : Type 0 where
  pub both : acquired false Got (limits 4) (log_after 4 two_too_old) (get 3) 130 ≡ comes_to (log_after 7 two_too_old) (starts (on_new 3 (get 3) 130))
  pub one : acquired false Got (limits 4) (log_after 4 two_too_old) (get 3) 124 ≡ comes_to (leased 1 to get 3 at 124 ∷ closed 2 for TooOld at 124 ∷ log_after 4 two_too_old) (starts (on_idle 1 (get 3) 124))
  pub none : acquired false Got (limits 4) (log_after 4 two_too_old) (get 3) 123 ≡ comes_to (leased 1 to get 3 at 123 ∷ log_after 4 two_too_old) (starts (on_idle 1 (get 3) 123))
  pub at_the_limit : acquired false Full (limits 2) (log_after 4 two_too_old) (get 3) 130 ≡ comes_to (log_after 6 two_too_old) no_room
  pub since_one_moment : acquired false Got (limits 4) (log_after 4 two_too_old_since_one_moment) (get 3) 130 ≡ comes_to (log_after 7 two_too_old_since_one_moment) (starts (on_new 3 (get 3) 130))
  pub of_another_lane : acquired false Got (limits 4) (log_after 4 two_too_old) (record get_of_lane_1 { transfer = 3 }) 130 ≡ comes_to (opened 3 for record get_of_lane_1 { transfer = 3 } at 130 ∷ log_after 4 two_too_old) (starts (on_new 3 (record get_of_lane_1 { transfer = 3 }) 130))

-- two are idle at a host that may have two: the one idle for the longest makes room, of two idle since one moment
-- the one of the lower number, and the other one stays
pub record TwoIdleAtTheHostLimit : Type 0 where
  pub longest : acquired false Full (limits 2) (log_after 4 two_too_old) (record (get 3) { fresh = true }) 130 ≡ comes_to (opened 3 for record (get 3) { fresh = true } at 130 ∷ closed 2 for HostRoom at 130 ∷ log_after 4 two_too_old) (starts (on_new 3 (record (get 3) { fresh = true }) 130))
  pub since_one_moment :
      acquired false Full (limits 2) (log_after 4 two_too_old_since_one_moment) (record (get 3) { fresh = true }) 130 ≡ comes_to (opened 3 for record (get 3) { fresh = true } at 130 ∷ closed 1 for HostRoom at 130 ∷ log_after 4 two_too_old_since_one_moment) (starts (on_new 3 (record (get 3) { fresh = true }) 130))

-- get 1 at 0, back 1 keep at 2; then get 2 of lane 1 at 3 at a host that has room, where the budget has none: the
-- acquire is halfway, and at the last try the host's own oldest idle connection makes room
abbrev pub one_idle : List Entry
one_idle = returned 1 with keep at 2 ∷ held_since_0

abbrev pub room_of_its_own : List Entry
room_of_its_own = opened 2 for get_of_lane_1 at 3 ∷ closed 1 for TotalRoom at 3 ∷ one_idle

pub record NoRoomInTheBudget : Type 0 where
  pub first_try : acquired false Full (limits 4) one_idle get_of_lane_1 3 ≡ comes_to one_idle no_room
  pub contended : acquired false Contended (limits 4) one_idle get_of_lane_1 3 ≡ comes_to one_idle again
  pub halfway_is_busy : refusal (limits 4) one_idle (2 ∷ []) get_of_lane_1 ≡ Some TransferBusy
  pub another_get : refusal (limits 4) one_idle (2 ∷ []) (get 3) ≡ None
  pub another_try : acquired false Got (limits 4) one_idle get_of_lane_1 3 ≡ comes_to (opened 2 for get_of_lane_1 at 3 ∷ one_idle) (starts (on_new 2 get_of_lane_1 3))
  pub last_try : acquired true Full (limits 4) one_idle get_of_lane_1 3 ≡ comes_to room_of_its_own (starts (on_new 2 get_of_lane_1 3))
  pub last_try_contended : acquired true Contended (limits 4) one_idle get_of_lane_1 3 ≡ comes_to one_idle again
  pub last_try_with_room : acquired true Got (limits 4) one_idle get_of_lane_1 3 ≡ comes_to (opened 2 for get_of_lane_1 at 3 ∷ one_idle) (starts (on_new 2 get_of_lane_1 3))
  pub fits : acquired false Full (limits 4) one_idle (get 2) 3 ≡ comes_to (leased 1 to get 2 at 3 ∷ one_idle) (starts (on_idle 1 (get 2) 3))

-- get 2 at 1 at a host without connections, where the total is reached by others: at the last try it waits, and
-- the host is queued; a turn of the host opens one for it
abbrev pub queued_since_1 : List Entry
queued_since_1 = waits get 2 at 1 ∷ []

abbrev pub two_queued : List Entry
two_queued = waits get 3 at 2 ∷ queued_since_1

pub record QueuedForTheTotal : Type 0 where
  pub first_try : acquired false Full (limits 4) [] (get 2) 1 ≡ comes_to [] no_room
  pub last_try : acquired true Full (limits 4) [] (get 2) 1 ≡ comes_to queued_since_1 (waits_since (get 2) 1)
  pub queued : is_queued (limits 4) queued_since_1 ≡ true
  pub behind : acquired false Got (limits 4) queued_since_1 (get 3) 2 ≡ comes_to two_queued (waits_since (get 3) 2)
  pub left : after_withdraw (limits 4) queued_since_1 2 6 ≡ record { moment = 6; event = Left 2 } ∷ queued_since_1
  pub left_nobody : is_queued (limits 4) (after_withdraw (limits 4) queued_since_1 2 6) ≡ false

pub record TurnsOfAHost : Type 0 where
  pub given : after_turn Got (limits 4) two_queued 5 ≡ opened 1 for get 2 at 5 ∷ two_queued
  pub still_queued : is_queued (limits 4) (after_turn Got (limits 4) two_queued 5) ≡ true
  pub at_its_limit : is_queued (limits 1) (after_turn Got (limits 1) two_queued 5) ≡ false
  pub second : after_turn Got (limits 4) (opened 1 for get 2 at 5 ∷ two_queued) 4 ≡ opened 2 for get 3 at 5 ∷ opened 1 for get 2 at 5 ∷ two_queued
  pub nobody_left : is_queued (limits 4) (opened 2 for get 3 at 5 ∷ opened 1 for get 2 at 5 ∷ two_queued) ≡ false
  pub full : after_turn Full (limits 4) two_queued 5 ≡ two_queued
  pub contended : after_turn Contended (limits 4) two_queued 5 ≡ two_queued

-- get 1 at 0, get 2 at 0, back 1 keep at 4, back 2 keep at 5, where one may be kept: the oldest of all is closed,
-- and then it is kept; or it is closed itself, where that is asked for
abbrev pub full_cache : List Entry
full_cache =
    opened 1 for get 1 at 0
    ∷ opened 2 for get 2 at 0
    ∷ returned 1 with keep at 4
    ∷ closed 1 for CacheFull at 5
    ∷ returned 2 with keep at 5
    ∷ []

pub record FullCache : Type 0 where
  pub first_back : given_back false Got (limits 4) (log_after 2 full_cache) 1 keep 4 ≡ spent (log_after 3 full_cache)
  pub kept_none : given_back false Full (limits 4) (log_after 3 full_cache) 2 keep 5 ≡ not_kept
  pub contended : given_back false Contended (limits 4) (log_after 3 full_cache) 2 keep 5 ≡ keep_again
  pub contended_to_close : given_back true Contended (limits 4) (log_after 3 full_cache) 2 keep 5 ≡ keep_again
  pub oldest : oldest_stamp (log_after 3 full_cache) 0 ≡ Some (record { since = 4; host = 0; number = 1 })
  pub second_back : given_back false Got (limits 4) (log_after 4 full_cache) 2 keep 5 ≡ spent (log_after 5 full_cache)
  pub closed_itself : given_back true Full (limits 4) (log_after 3 full_cache) 2 keep 5 ≡ spent (closed 2 for CacheFull at 5 ∷ returned 2 with keep at 5 ∷ log_after 3 full_cache)
  pub kept_if_granted : given_back true Got (limits 4) (log_after 3 full_cache) 2 keep 5 ≡ spent (returned 2 with keep at 5 ∷ log_after 3 full_cache)
  pub ends_anyway : given_back true Full (limits 4) (log_after 3 full_cache) 2 close 5 ≡ spent (closed 2 for NotPersistent at 5 ∷ returned 2 with close at 5 ∷ log_after 3 full_cache)
  pub handed_on : given_back true Full (limits 1) (waits get 2 at 1 ∷ held_since_0) 1 keep 2 ≡ spent (leased 1 to get 2 at 2 ∷ returned 1 with keep at 2 ∷ waits get 2 at 1 ∷ held_since_0)

-- three are idle, and the one idle for the longest is the youngest: a prune by a lifetime of 80 closes the other two
abbrev pub young_before_old : List Entry
young_before_old =
    opened 1 for get 1 at 0
    ∷ opened 2 for get 2 at 0
    ∷ opened 3 for get 3 at 50
    ∷ returned 3 with keep at 60
    ∷ returned 2 with keep at 65
    ∷ returned 1 with keep at 70
    ∷ closed 2 for Pruned at 100
    ∷ closed 1 for Pruned at 100
    ∷ []

pub record PruneByLifetime : Type 0 where
  pub both_old : without_picked (ForPrune 118 80) 100 (log_after 6 young_before_old) ≡ log_after 8 young_before_old
  pub two_closed : length (picked (ForPrune 118 80) 100 (log_after 6 young_before_old)) ≡ 2
  pub by_age : without_picked (ForPrune 30 0) 100 (log_after 6 young_before_old) ≡ closed 2 for Pruned at 100 ∷ closed 3 for Pruned at 100 ∷ log_after 6 young_before_old
  pub none : without_picked (ForPrune 40 100) 100 (log_after 6 young_before_old) ≡ log_after 6 young_before_old

-- get 1 at 0, get 2 at 1, get 3 at 2, limit 2 at 5, limit 1 at 6, back 1 keep at 7
pub record LimitRaisedCalls : Type 0 where
  pub accepted : limit_refusal 2 (log_after 3 limit_raised) ≡ None
  pub one_may_start : starts_due false 2 (log_after 3 limit_raised) ≡ 1
  pub raised : after_limit 2 1 (limits 1) (log_after 3 limit_raised) 5 ≡ log_after 5 limit_raised
  pub not_queued : is_queued (limits 1) (log_after 5 limit_raised) ≡ false
  pub lowered_below_what_is_held : limit_refusal 1 (log_after 5 limit_raised) ≡ Some (Busy 2)
  pub back : given_back false Got (limits 1) (log_after 5 limit_raised) 1 keep 7 ≡ spent (log_after 7 limit_raised)

-- limit 2 at 6 with three open, of which two are idle since one moment; limit 3 at 8
pub record LimitLoweredCalls : Type 0 where
  pub accepted : limit_refusal 2 (log_after 5 limit_lowered) ≡ None
  pub lowered : after_limit 2 0 (limits 4) (log_after 5 limit_lowered) 6 ≡ log_after 7 limit_lowered
  pub freed : is_freed (log_after 5 limit_lowered) (log_after 7 limit_lowered) ≡ true
  pub lowered_to_1 : after_limit 1 0 (limits 4) (log_after 5 limit_lowered) 6 ≡ limit 1 at 6 ∷ closed 2 for HostRoom at 6 ∷ closed 1 for HostRoom at 6 ∷ log_after 5 limit_lowered
  pub room_already : after_limit 3 0 (limits 4) (log_after 5 limit_lowered) 6 ≡ limit 3 at 6 ∷ log_after 5 limit_lowered
  pub raised : after_limit 3 0 (limits 4) (log_after 7 limit_lowered) 8 ≡ log_after 8 limit_lowered

-- three wait at a host that may have one; its limit is raised to 4, and the budget has room for one more, or for
-- none: the host is queued. While it is queued a change starts nobody, and it is not queued at its limit
abbrev pub three_wait : List Entry
three_wait = waits get 4 at 3 ∷ waits get 3 at 2 ∷ waits get 2 at 1 ∷ held_since_0

abbrev pub raised_to_4 : List Entry
raised_to_4 = opened 2 for get 2 at 5 ∷ limit 4 at 5 ∷ three_wait

pub record LimitRaisedBeyondTheTotal : Type 0 where
  pub all_may_start : starts_due false 4 three_wait ≡ 3
  pub two_may_start : starts_due false 3 three_wait ≡ 2
  pub all : after_limit 4 3 (limits 1) three_wait 5 ≡ opened 4 for get 4 at 5 ∷ opened 3 for get 3 at 5 ∷ raised_to_4
  pub all_started : is_queued (limits 1) (after_limit 4 3 (limits 1) three_wait 5) ≡ false
  pub room_for_one : after_limit 4 1 (limits 1) three_wait 5 ≡ raised_to_4
  pub queued : is_queued (limits 1) raised_to_4 ≡ true
  pub room_for_none : after_limit 4 0 (limits 1) three_wait 5 ≡ limit 4 at 5 ∷ three_wait
  pub none_while_queued : starts_due true 65535 raised_to_4 ≡ 0
  pub while_queued : after_limit 3 0 (limits 1) raised_to_4 6 ≡ limit 3 at 6 ∷ raised_to_4
  pub still_queued : is_queued (limits 1) (limit 3 at 6 ∷ raised_to_4) ≡ true
  pub at_its_limit : is_queued (limits 1) (limit 2 at 6 ∷ raised_to_4) ≡ false
  pub below_what_is_held : limit_refusal 1 raised_to_4 ≡ Some (Busy 2)

-- the greatest limit is 65535, and 0 is kept as that
pub record GreatestLimit : Type 0 where
  pub greatest : limit_refusal 65535 held_since_0 ≡ None
  pub too_great : limit_refusal 65536 held_since_0 ≡ Some BadLimit
  pub none : limit_refusal 0 raised_to_4 ≡ None
  pub kept_as : limit_in_force (limits 1) (after_limit (kept_limit 0) 0 (limits 1) held_since_0 5) ≡ 65535
