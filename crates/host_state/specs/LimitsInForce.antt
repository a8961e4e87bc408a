-- What calls do to the limit in force, and to the moment that they are handed.
use Rattle.std.specs.Prelude.{◌≡◌, ℕ, ◌≤◌, Bool, List, None}
use Rattle.persistence.specs.declared.facts.Facts.{Facts}
use Rattle.budget.specs.declared.permits.Try.{Try}
use Rattle.conn_log.specs.declared.entry.Want.{Want}
use Rattle.conn_log.specs.declared.entry.Cause.{Cause}
use Rattle.conn_log.specs.declared.entry.Event.TheVariants.{Closed}
use Rattle.conn_log.specs.declared.entry.Entry.{Entry}
use Rattle.conn_log.specs.Connections.{last_moment}
use Rattle.conn_log.specs.Legal.{LimitAndFirst, limit_in_force}
use Rattle.host_state.specs.Steps.{moment_at, add, without_picked}
use Rattle.host_state.specs.declared.closing.Closing.TheVariants.{Pruned}
use Rattle.host_state.specs.Calls.{acquired, given_back, spent, after_abandon, after_withdraw, after_turn, after_limit, kept_limit, limit_refusal, greatest_limit}

-- the limit in force stays
abbrev pub KeepsLimit : LimitAndFirst → List Entry → List Entry → Type 0
KeepsLimit settings old new = limit_in_force settings new ≡ limit_in_force settings old

abbrev pub AcquireKeepsTheLimit : Type 0
AcquireKeepsTheLimit =
    (is_last : Bool) (told : Try) (settings : LimitAndFirst) (log : List Entry) (want : Want) (now : ℕ)
    → KeepsLimit settings log (acquired is_last told settings log want now).log

abbrev pub GiveBackKeepsTheLimit : Type 0
GiveBackKeepsTheLimit =
    (close_if_full : Bool) (told : Try) (settings : LimitAndFirst) (log after : List Entry) (c : ℕ) (facts : Facts) (now : ℕ)
    → given_back close_if_full told settings log c facts now ≡ spent after
    → KeepsLimit settings log after

abbrev pub AbandonKeepsTheLimit : Type 0
AbandonKeepsTheLimit =
    (settings : LimitAndFirst) (log : List Entry) (c now : ℕ)
    → KeepsLimit settings log (after_abandon settings log c now)

abbrev pub WithdrawKeepsTheLimit : Type 0
WithdrawKeepsTheLimit =
    (settings : LimitAndFirst) (log : List Entry) (transfer now : ℕ)
    → KeepsLimit settings log (after_withdraw settings log transfer now)

abbrev pub TurnKeepsTheLimit : Type 0
TurnKeepsTheLimit =
    (told : Try) (settings : LimitAndFirst) (log : List Entry) (now : ℕ)
    → KeepsLimit settings log (after_turn told settings log now)

abbrev pub EvictingKeepsTheLimit : Type 0
EvictingKeepsTheLimit =
    (settings : LimitAndFirst) (log : List Entry) (c : ℕ) (cause : Cause) (now : ℕ)
    → KeepsLimit settings log (add (moment_at log now) (Closed c cause) log)

abbrev pub PruneKeepsTheLimit : Type 0
PruneKeepsTheLimit =
    (settings : LimitAndFirst) (log : List Entry) (max_age max_life now : ℕ)
    → KeepsLimit settings log (without_picked (Pruned max_age max_life) (moment_at log now) log)

-- a changed limit is the one in force; one that is not refused is at most the greatest
abbrev pub LimitBecomesTheOneInForce : Type 0
LimitBecomesTheOneInForce =
    (settings : LimitAndFirst) (log : List Entry) (most given now : ℕ)
    → limit_in_force settings (after_limit most given settings log now) ≡ most

abbrev pub AllowedLimitsAreWithin : Type 0
AllowedLimitsAreWithin =
    (log : List Entry) (n : ℕ)
    → limit_refusal n log ≡ None
    → kept_limit n ≤ greatest_limit

-- the moment at which a call acts is not before the one handed in, nor before the last one of the log
abbrev pub MomentsAreNotBefore : Type 0
MomentsAreNotBefore = (log : List Entry) (now : ℕ) → (now ≤ moment_at log now) × (last_moment log ≤ moment_at log now)
