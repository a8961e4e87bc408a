-- What the calls' answers keep of a log, whatever the log.
use Rattle.std.specs.Prelude.{◌≡◌, ℕ, ◌≤◌, Bool, true, false, List, [], ◌∷◌, Some, None}
use Rattle.persistence.specs.declared.facts.Facts.{Facts}
use Rattle.budget.specs.declared.permits.Try.{Try}
use Rattle.conn_log.specs.declared.entry.Want.{Want}
use Rattle.conn_log.specs.declared.entry.Cause.{Cause}
use Rattle.conn_log.specs.declared.entry.Entry.{Entry}
use Rattle.conn_log.specs.declared.entry.Cause.TheVariants.{Dropped, Withdrawn}
use Rattle.conn_log.specs.declared.entry.Event.TheVariants.{Returned, Closed, Left, Limit}
use Rattle.conn_log.specs.Connections.{held_number}
use Rattle.conn_log.specs.Waiting.{waits}
use Rattle.conn_log.specs.Fit.{oldest}
use Rattle.conn_log.specs.Legal.{LimitAndFirst, IsQuiet}
use Rattle.conn_log.specs.Sound.{IsSound, is_of_idle}
use Rattle.host_state.specs.Steps.{moment_at, add, without_picked}
use Rattle.host_state.specs.declared.closing.Closing.TheVariants.{Pruned, Above}
use Rattle.host_state.specs.Calls.{start_entry, wait_entry, Start, Wait, GrowsBy, starts, waits_on, spent, acquired, given_back, after_abandon, after_withdraw, after_turn, after_limit, kept_limit, limit_refusal, starts_due, is_queued, is_busy}

-- what holds between two calls: the log is sound, and quiet with its mark
pub record IsSoundAndQuiet (settings : LimitAndFirst) (log : List Entry) : Type 0 where
  pub sound : IsSound settings log
  pub quiet : IsQuiet settings (is_queued settings log) log

-- such a log is such a one after an acquire of a transfer that is not busy, or another try of it, whatever the
-- budget answered
abbrev pub AcquireKeepsSoundAndQuiet : Type 0
AcquireKeepsSoundAndQuiet =
    (is_last : Bool) (told : Try) (settings : LimitAndFirst) (log : List Entry) (want : Want) (now : ℕ)
    → IsSoundAndQuiet settings log
    → is_busy log [] want.transfer ≡ false
    → IsSoundAndQuiet settings (acquired is_last told settings log want now).log

-- after what a transfer holds is given back, or abandoned
abbrev pub GiveBackKeepsSoundAndQuiet : Type 0
GiveBackKeepsSoundAndQuiet =
    (close_if_full : Bool) (told : Try) (settings : LimitAndFirst) (log after : List Entry) (transfer c : ℕ) (facts : Facts) (now : ℕ)
    → IsSoundAndQuiet settings log
    → held_number log transfer ≡ Some c
    → given_back close_if_full told settings log c facts now ≡ spent after
    → IsSoundAndQuiet settings after

abbrev pub AbandonKeepsSoundAndQuiet : Type 0
AbandonKeepsSoundAndQuiet =
    (settings : LimitAndFirst) (log : List Entry) (transfer c now : ℕ)
    → IsSoundAndQuiet settings log
    → held_number log transfer ≡ Some c
    → IsSoundAndQuiet settings (after_abandon settings log c now)

-- after a ticket is withdrawn, of one that waits or of one that was granted a connection
abbrev pub WithdrawKeepsSoundAndQuiet : Type 0
WithdrawKeepsSoundAndQuiet =
    (settings : LimitAndFirst) (log : List Entry) (transfer now : ℕ)
    → IsSoundAndQuiet settings log
    → IsSoundAndQuiet settings (after_withdraw settings log transfer now)

-- after a turn of a host that is queued
abbrev pub TurnKeepsSoundAndQuiet : Type 0
TurnKeepsSoundAndQuiet =
    (told : Try) (settings : LimitAndFirst) (log : List Entry) (now : ℕ)
    → IsSoundAndQuiet settings log
    → is_queued settings log ≡ true
    → IsSoundAndQuiet settings (after_turn told settings log now)

-- after the oldest idle connection is closed, or all that are too old by two numbers
abbrev pub EvictingKeepsSoundAndQuiet : Type 0
EvictingKeepsSoundAndQuiet =
    (settings : LimitAndFirst) (log : List Entry) (c : ℕ) (cause : Cause) (now : ℕ)
    → IsSoundAndQuiet settings log
    → oldest log ≡ Some c
    → is_of_idle cause ≡ true
    → IsSoundAndQuiet settings (add (moment_at log now) (Closed c cause) log)

abbrev pub PruneKeepsSoundAndQuiet : Type 0
PruneKeepsSoundAndQuiet =
    (settings : LimitAndFirst) (log : List Entry) (max_age max_life now : ℕ)
    → IsSoundAndQuiet settings log
    → IsSoundAndQuiet settings (without_picked (Pruned max_age max_life) (moment_at log now) log)

-- and after a change of the limit that is not refused, with so many opened as the budget has room for
abbrev pub LimitKeepsSoundAndQuiet : Type 0
LimitKeepsSoundAndQuiet =
    (settings : LimitAndFirst) (log : List Entry) (n given now : ℕ)
    → IsSoundAndQuiet settings log
    → limit_refusal n log ≡ None
    → given ≤ starts_due (is_queued settings log) (kept_limit n) log
    → IsSoundAndQuiet settings (after_limit (kept_limit n) given settings log now)

-- the entry of the start or the wait that an acquire gives is the newest of its log
abbrev pub AcquireWritesItsStart : Type 0
AcquireWritesItsStart =
    (is_last : Bool) (told : Try) (settings : LimitAndFirst) (log : List Entry) (want : Want) (now : ℕ) (start : Start)
    → (acquired is_last told settings log want now).reply ≡ starts start
    → (before : List Entry) × ((acquired is_last told settings log want now).log ≡ start_entry start ∷ before)

abbrev pub AcquireWritesItsWait : Type 0
AcquireWritesItsWait =
    (is_last : Bool) (told : Try) (settings : LimitAndFirst) (log : List Entry) (want : Want) (now : ℕ) (wait : Wait)
    → (acquired is_last told settings log want now).reply ≡ waits_on wait
    → (before : List Entry) × ((acquired is_last told settings log want now).log ≡ wait_entry wait ∷ before)

-- the entry with which a lease or a ticket ends is the first that the call writes
abbrev pub GiveBackWritesItsReturn : Type 0
GiveBackWritesItsReturn =
    (close_if_full : Bool) (told : Try) (settings : LimitAndFirst) (log after : List Entry) (c : ℕ) (facts : Facts) (now : ℕ)
    → given_back close_if_full told settings log c facts now ≡ spent after
    → GrowsBy (record { moment = moment_at log now; event = Returned c facts } ∷ log) after

abbrev pub AbandonWritesItsClosing : Type 0
AbandonWritesItsClosing =
    (settings : LimitAndFirst) (log : List Entry) (c now : ℕ)
    → GrowsBy (record { moment = moment_at log now; event = Closed c Dropped } ∷ log) (after_abandon settings log c now)

abbrev pub WithdrawWritesItsClosing : Type 0
WithdrawWritesItsClosing =
    (settings : LimitAndFirst) (log : List Entry) (transfer c now : ℕ)
    → waits log transfer ≡ false
    → held_number log transfer ≡ Some c
    → GrowsBy (record { moment = moment_at log now; event = Closed c Withdrawn } ∷ log) (after_withdraw settings log transfer now)

-- a transfer that leaves writes nothing else
abbrev pub WithdrawWritesItsLeaving : Type 0
WithdrawWritesItsLeaving =
    (settings : LimitAndFirst) (log : List Entry) (transfer now : ℕ)
    → waits log transfer ≡ true
    → after_withdraw settings log transfer now ≡ record { moment = moment_at log now; event = Left transfer } ∷ log

-- a new limit is written once what is idle above it is closed
abbrev pub LimitIsWritten : Type 0
LimitIsWritten =
    (settings : LimitAndFirst) (log : List Entry) (most given now : ℕ)
    → GrowsBy (record { moment = moment_at log now; event = Limit most } ∷ without_picked (Above most) (moment_at log now) log) (after_limit most given settings log now)
