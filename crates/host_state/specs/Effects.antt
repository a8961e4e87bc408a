-- What each call does to its host as far as other hosts count it: how many connections are open and idle, and who
-- waits; after each the log is sound, and quiet with its new mark. The log before the call is the old one.
use Rattle.std.specs.Prelude.{◌≡◌, ℕ, ◌+◌, ◌-◌, ◌≤◌, Bool, true, false, not, ◌&&◌, ◌||◌, List, [], ◌∷◌, ◌++◌, length, drop, Some, None, is_none}
use Rattle.persistence.specs.declared.facts.Facts.{Facts}
use Rattle.budget.specs.declared.permits.Try.{Try}
use Rattle.budget.specs.declared.permits.Try.TheVariants.{Got, Full, Contended}
use Rattle.conn_log.specs.declared.entry.Want.{Want}
use Rattle.conn_log.specs.declared.entry.Cause.{Cause}
use Rattle.conn_log.specs.declared.entry.Event.TheVariants.{Closed}
use Rattle.conn_log.specs.declared.entry.Entry.{Entry}
use Rattle.conn_log.specs.Connections.{held_number, open_connections, idle_connections}
use Rattle.conn_log.specs.Waiting.{waiting, waits, without}
use Rattle.conn_log.specs.Fit.{newest_fit, oldest}
use Rattle.conn_log.specs.Legal.{LimitAndFirst, limit_in_force}
use Rattle.conn_log.specs.Sound.{is_of_idle}
use Rattle.host_state.specs.Steps.{moment_at, add, is_full, picked, without_picked}
use Rattle.host_state.specs.declared.closing.Closing.TheVariants.{TooOld, Pruned}
use Rattle.host_state.specs.Calls.{Reply, starts, waits_on, no_room, again, spent, acquired, is_anyone, becomes_idle, given_back, after_abandon, after_withdraw, after_turn, after_limit, kept_limit, limit_refusal, starts_due, is_queued, is_busy, is_freed}
use Rattle.host_state.specs.Laws.{IsSoundAndQuiet}

abbrev pub one_if : Bool → ℕ
one_if true = 1
one_if false = 0

-- how many are open, and idle
abbrev pub open_len : List Entry → ℕ
open_len log = length (open_connections log)

abbrev pub idle_len : List Entry → ℕ
idle_len log = length (idle_connections log)

-- so many idle connections are closed
pub record Closes (closed : ℕ) (settings : LimitAndFirst) (old new : List Entry) : Type 0 where
  pub number_open : open_len old ≡ open_len new + closed
  pub number_idle : idle_len old ≡ idle_len new + closed
  pub same_wait : waiting new ≡ waiting old
  pub settled : IsSoundAndQuiet settings new

-- a new connection is opened for the first transfer that waits
pub record OpensForHead (settings : LimitAndFirst) (old new : List Entry) : Type 0 where
  pub one_more_open : open_len new ≡ open_len old + 1
  pub as_many_idle : idle_len new ≡ idle_len old
  pub head : Want
  pub head_starts : waiting old ≡ head ∷ waiting new
  pub settled : IsSoundAndQuiet settings new

-- where nobody waits a transfer starts: on one connection more, or on one that was idle or in place of one
pub record Starts (is_more : Bool) (settings : LimitAndFirst) (old new : List Entry) : Type 0 where
  pub number_open : open_len new ≡ open_len old + one_if is_more
  pub number_idle : idle_len old ≡ idle_len new + one_if (not is_more)
  pub nobody_waited : waiting old ≡ []
  pub nobody_waits : waiting new ≡ []
  pub settled : IsSoundAndQuiet settings new

-- a transfer waits after all others
pub record Waits (want : Want) (settings : LimitAndFirst) (old new : List Entry) : Type 0 where
  pub as_many_open : open_len new ≡ open_len old
  pub as_many_idle : idle_len new ≡ idle_len old
  pub waits_last : waiting new ≡ waiting old ++ want ∷ []
  pub settled : IsSoundAndQuiet settings new

-- a transfer that waits leaves
pub record Leaves (transfer : ℕ) (settings : LimitAndFirst) (old new : List Entry) : Type 0 where
  pub as_many_open : open_len new ≡ open_len old
  pub as_many_idle : idle_len new ≡ idle_len old
  pub others_wait : waiting new ≡ without transfer (waiting old)
  pub settled : IsSoundAndQuiet settings new

-- a connection that was held is spent: where anyone waits the first of them starts, on it or in its place; where
-- nobody does it is kept idle, or its permit is freed
pub record SpendsOne (is_kept : Bool) (settings : LimitAndFirst) (old new : List Entry) : Type 0 where
  pub number_open : open_len old ≡ open_len new + one_if (is_freed old new)
  pub number_idle : idle_len new ≡ idle_len old + one_if is_kept
  pub freed_where : is_freed old new ≡ not (is_kept || is_anyone (waiting old))
  pub kept_where : is_kept ≡ true → waiting old ≡ []
  pub head_starts : waiting new ≡ drop 1 (waiting old)
  pub settled : IsSoundAndQuiet settings new

-- the limit becomes that number, so many idle connections are closed, and so many of the first that wait start
pub record ChangesLimit (most closed given : ℕ) (settings : LimitAndFirst) (old new : List Entry) : Type 0 where
  pub limit : limit_in_force settings new ≡ most
  pub number_open : open_len old + given ≡ open_len new + closed
  pub number_idle : idle_len old ≡ idle_len new + closed
  pub first_start : waiting new ≡ drop given (waiting old)
  pub settled : IsSoundAndQuiet settings new

-- the log without what is too old for the want; where others wait it is the log, since nothing is idle
abbrev pub tidied : Want → ℕ → List Entry → List Entry
tidied want moment log = without_picked (TooOld want) moment log

-- the budget is asked for one connection more: nobody waits, none fits, and the host has room
abbrev pub asks_for_one : LimitAndFirst → List Entry → Want → ℕ → Bool
asks_for_one settings log want moment = not (is_anyone (waiting log)) && is_none (newest_fit log want moment) && not (is_full settings log)

-- and gives the permit
abbrev pub is_got : Try → Bool
is_got Got = true
is_got _ = false

-- what an acquire that comes to a reply does, once what is too old is closed: it starts, it waits, or it is halfway
-- and does nothing
abbrev pub DoesAs : Reply → Bool → Try → Want → LimitAndFirst → List Entry → List Entry → Type 0
DoesAs (starts start) asked told want settings old new = Starts (asked && is_got told) settings old new
DoesAs (waits_on wait) asked told want settings old new = Waits want settings old new × (asked ≡ true → told ≡ Full)
DoesAs no_room asked told want settings old new = (asked ≡ true) × (told ≡ Full) × (new ≡ old)
DoesAs again asked told want settings old new = (asked ≡ true) × (told ≡ Contended) × (new ≡ old)

-- an acquire, or another try of one, closes what is too old, and does as its reply says; a start has one
-- connection more exactly where the budget was asked for it and gave it, and a wait beside room comes only where the
-- budget has none
abbrev pub AcquireTidies : Type 0
AcquireTidies =
    (settings : LimitAndFirst) (log : List Entry) (want : Want) (now : ℕ)
    → IsSoundAndQuiet settings log
    → Closes (length (picked (TooOld want) (moment_at log now) log)) settings log (tidied want (moment_at log now) log)

abbrev pub AcquireDoesAsReplied : Type 0
AcquireDoesAsReplied =
    (is_last : Bool) (told : Try) (settings : LimitAndFirst) (log : List Entry) (want : Want) (now : ℕ)
    → IsSoundAndQuiet settings log
    → is_busy log [] want.transfer ≡ false
    → (let moment = moment_at log now in
    let old = tidied want moment log in
    let outcome = acquired is_last told settings log want now in
    DoesAs outcome.reply (asks_for_one settings old want moment) told want settings old outcome.log)

-- a give back, an abandoned lease and a withdrawn ticket that was granted spend one; only what is to be idle is
-- kept, and only where the budget keeps it
abbrev pub GiveBackSpendsOne : Type 0
GiveBackSpendsOne =
    (close_if_full : Bool) (told : Try) (settings : LimitAndFirst) (log after : List Entry) (transfer c : ℕ) (facts : Facts) (now : ℕ)
    → IsSoundAndQuiet settings log
    → held_number log transfer ≡ Some c
    → given_back close_if_full told settings log c facts now ≡ spent after
    → SpendsOne (becomes_idle log c facts now && is_got told) settings log after

abbrev pub AbandonSpendsOne : Type 0
AbandonSpendsOne =
    (settings : LimitAndFirst) (log : List Entry) (transfer c now : ℕ)
    → IsSoundAndQuiet settings log
    → held_number log transfer ≡ Some c
    → SpendsOne false settings log (after_abandon settings log c now)

abbrev pub WithdrawSpendsOne : Type 0
WithdrawSpendsOne =
    (settings : LimitAndFirst) (log : List Entry) (transfer c now : ℕ)
    → IsSoundAndQuiet settings log
    → held_number log transfer ≡ Some c
    → SpendsOne false settings log (after_withdraw settings log transfer now)

-- a withdrawn ticket of a transfer that waits has it leave
abbrev pub WithdrawLeaves : Type 0
WithdrawLeaves =
    (settings : LimitAndFirst) (log : List Entry) (transfer now : ℕ)
    → IsSoundAndQuiet settings log
    → waits log transfer ≡ true
    → Leaves transfer settings log (after_withdraw settings log transfer now)

-- a queued host's turn, where the budget gives the permit, opens one for the first that waits
abbrev pub TurnOpensForHead : Type 0
TurnOpensForHead =
    (settings : LimitAndFirst) (log : List Entry) (now : ℕ)
    → IsSoundAndQuiet settings log
    → is_queued settings log ≡ true
    → OpensForHead settings log (after_turn Got settings log now)

-- closing the oldest closes one, and a prune all that it picks
abbrev pub EvictingClosesOne : Type 0
EvictingClosesOne =
    (settings : LimitAndFirst) (log : List Entry) (c : ℕ) (cause : Cause) (now : ℕ)
    → IsSoundAndQuiet settings log
    → oldest log ≡ Some c
    → is_of_idle cause ≡ true
    → Closes 1 settings log (add (moment_at log now) (Closed c cause) log)

abbrev pub PruneCloses : Type 0
PruneCloses =
    (settings : LimitAndFirst) (log : List Entry) (max_age max_life now : ℕ)
    → IsSoundAndQuiet settings log
    → Closes (length (picked (Pruned max_age max_life) (moment_at log now) log)) settings log (without_picked (Pruned max_age max_life) (moment_at log now) log)

-- a new limit closes as many as are open above it
abbrev pub LimitChanges : Type 0
LimitChanges =
    (settings : LimitAndFirst) (log : List Entry) (n given now : ℕ)
    → IsSoundAndQuiet settings log
    → limit_refusal n log ≡ None
    → given ≤ starts_due (is_queued settings log) (kept_limit n) log
    → ChangesLimit (kept_limit n) (open_len log - kept_limit n) given settings log (after_limit (kept_limit n) given settings log now)

-- once those that are too old are closed none of them is left, whatever the log
abbrev pub NoneTooOldIsLeft : Type 0
NoneTooOldIsLeft =
    (want : Want) (moment : ℕ) (log : List Entry)
    → picked (TooOld want) moment (without_picked (TooOld want) moment log) ≡ []

abbrev pub NoneToPruneIsLeft : Type 0
NoneToPruneIsLeft =
    (max_age max_life moment : ℕ) (log : List Entry)
    → picked (Pruned max_age max_life) moment (without_picked (Pruned max_age max_life) moment log) ≡ []
