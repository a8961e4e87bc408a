-- What calls tell a pass stands in the log that they leave.
use Rattle.std.proofs.Common.{◌≡◌, ℕ, Bool, true, false, List, [], ◌∷◌, Option, Some, None, refl, sym, ap, subst}
use Rattle.std.specs.Prelude.{if◌then◌else◌}
use Rattle.persistence.specs.declared.facts.Facts.{Facts}
use Rattle.budget.specs.declared.permits.Try.{Try}
use Rattle.budget.specs.declared.permits.Try.TheVariants.{Got, Full, Contended}
use Rattle.conn_log.specs.declared.entry.Want.{Want}
use Rattle.conn_log.specs.declared.entry.Cause.{Cause}
use Rattle.conn_log.specs.declared.entry.Cause.TheVariants.{HostRoom, TotalRoom, CacheFull, Dropped, Withdrawn}
use Rattle.conn_log.specs.declared.entry.Event.TheVariants.{Returned, Closed, Left, Limit}
use Rattle.conn_log.specs.declared.entry.Entry.{Entry}
use Rattle.conn_log.specs.Connections.{held_number}
use Rattle.conn_log.specs.Waiting.{waiting, waits}
use Rattle.conn_log.specs.Fit.{newest_fit, oldest}
use Rattle.conn_log.specs.Legal.{LimitAndFirst, owed}
use Rattle.host_state.specs.declared.closing.Closing.TheVariants.{TooOld, Above}
use Rattle.host_state.specs.Steps.{add, moment_at, without_picked, is_full}
use Rattle.host_state.specs.Calls.{Start, Wait, Reply, Acquired, Returning, starts, waits_on, no_room, again, spent, not_kept, keep_again, start_in_place_of, start_in_place, start_as_told, start_on, start_behind, acquired, open_for_head, returned, after_give_back, becomes_idle, keep_as_told, given_back, after_abandon, close_granted, after_withdraw, after_limit, GrowsBy, start_entry, wait_entry}
use Rattle.host_state.proofs.Growth.{grows_same, grows_by_one, grows_for, grows_for_first, grows_settled}

-- the newest entry is that of the reply
abbrev Writes : Reply → List Entry → Type 0
Writes (starts start) log = (before : List Entry) × (log ≡ start_entry start ∷ before)
Writes (waits_on wait) log = (before : List Entry) × (log ≡ wait_entry wait ∷ before)
Writes no_room log = Unit {0}
Writes again log = Unit {0}

abbrev WritesItsReply : Acquired → Type 0
WritesItsReply it = Writes it.reply it.log

module _ (settings : LimitAndFirst) (want : Want) (moment : ℕ) where
  in_place_writes : (cause : Cause) (log : List Entry) (first : Option ℕ) → WritesItsReply (start_in_place_of first cause settings want moment log)
  in_place_writes cause log None = (log, refl)
  in_place_writes cause log (Some c) = (add moment (Closed c cause) log, refl)

  as_told_writes : (log : List Entry) (is_last : Bool) (told : Try) → WritesItsReply (start_as_told is_last told settings want moment log)
  as_told_writes log is_last Got = (log, refl)
  as_told_writes log is_last Contended = tt
  as_told_writes log false Full = tt
  as_told_writes log true Full = in_place_writes TotalRoom log (oldest log)

  start_writes : (log : List Entry) (fit : Option ℕ) (is_last : Bool) (told : Try) → WritesItsReply (start_on fit is_last told settings want moment log)
  start_writes log (Some c) is_last told = (log, refl)
  start_writes log None is_last told = by_room (is_full settings log)
    where
      by_room : (full : Bool) → WritesItsReply (if full then start_in_place HostRoom settings want moment log else start_as_told is_last told settings want moment log)
      by_room true = in_place_writes HostRoom log (oldest log)
      by_room false = as_told_writes log is_last told

reply_written : (is_last : Bool) (told : Try) (settings : LimitAndFirst) (log : List Entry) (want : Want) (now : ℕ) → WritesItsReply (acquired is_last told settings log want now)
reply_written is_last told settings log want now = by_queue (waiting log)
  where
    by_queue : (wants : List Want) → WritesItsReply (start_behind wants is_last told settings want (moment_at log now) log)
    by_queue [] =
        let moment = moment_at log now in
        let young = without_picked (TooOld want) moment log in
        start_writes settings want moment young (newest_fit young want moment) is_last told
    by_queue (head ∷ others) = (log, refl)

pub start_written : (is_last : Bool) (told : Try) (settings : LimitAndFirst) (log : List Entry) (want : Want) (now : ℕ) (start : Start) → (acquired is_last told settings log want now).reply ≡ starts start → (before : List Entry) × ((acquired is_last told settings log want now).log ≡ start_entry start ∷ before)
start_written is_last told settings log want now start is = subst (λ (reply : Reply). Writes reply (acquired is_last told settings log want now).log) is (reply_written is_last told settings log want now)

pub wait_written : (is_last : Bool) (told : Try) (settings : LimitAndFirst) (log : List Entry) (want : Want) (now : ℕ) (wait : Wait) → (acquired is_last told settings log want now).reply ≡ waits_on wait → (before : List Entry) × ((acquired is_last told settings log want now).log ≡ wait_entry wait ∷ before)
wait_written is_last told settings log want now wait is = subst (λ (reply : Reply). Writes reply (acquired is_last told settings log want now).log) is (reply_written is_last told settings log want now)

-- the return is the first entry
abbrev WrittenWhereSpent : List Entry → Returning → Type 0
WrittenWhereSpent old (spent log) = GrowsBy old log
WrittenWhereSpent old not_kept = Unit {0}
WrittenWhereSpent old keep_again = Unit {0}

pub return_written : (close_if_full : Bool) (told : Try) (settings : LimitAndFirst) (log after : List Entry) (c : ℕ) (facts : Facts) (now : ℕ) → given_back close_if_full told settings log c facts now ≡ spent after → GrowsBy (record { moment = moment_at log now; event = Returned c facts } ∷ log) after
return_written close_if_full told settings log after c facts now is = subst (WrittenWhereSpent back) is (by_rest (becomes_idle log c facts now))
  where
    back : List Entry
    back = returned log c facts now

    by_told : (close_if_full : Bool) (told : Try) → WrittenWhereSpent back (keep_as_told close_if_full told c (moment_at log now) back)
    by_told close_if_full Got = grows_same back
    by_told close_if_full Contended = tt
    by_told true Full = grows_by_one (moment_at log now) (Closed c CacheFull) back back (grows_same back)
    by_told false Full = tt

    by_rest : (idle : Bool) → WrittenWhereSpent back (if idle then keep_as_told close_if_full told c (moment_at log now) back else spent (after_give_back settings log c facts now))
    by_rest true = by_told close_if_full told
    by_rest false = grows_settled settings (moment_at log now) back c back (grows_same back) (owed back)

-- the closing is the first one
closing_written : (settings : LimitAndFirst) (log : List Entry) (c : ℕ) (cause : Cause) (moment : ℕ) → GrowsBy (add moment (Closed c cause) log) (open_for_head settings moment (add moment (Closed c cause) log))
closing_written settings log c cause moment =
    let closed = add moment (Closed c cause) log in
    grows_for settings moment closed closed (grows_same closed) (waiting closed)

pub abandon_written : (settings : LimitAndFirst) (log : List Entry) (c now : ℕ) → GrowsBy (record { moment = moment_at log now; event = Closed c Dropped } ∷ log) (after_abandon settings log c now)
abandon_written settings log c now = closing_written settings log c Dropped (moment_at log now)

pub withdraw_written : (settings : LimitAndFirst) (log : List Entry) (transfer c now : ℕ) → waits log transfer ≡ false → held_number log transfer ≡ Some c → GrowsBy (record { moment = moment_at log now; event = Closed c Withdrawn } ∷ log) (after_withdraw settings log transfer now)
withdraw_written settings log transfer c now idle held =
    let is : after_withdraw settings log transfer now ≡ close_granted settings log (Some c) now = rw idle (ap (λ number. close_granted settings log number now) held) in
    subst (GrowsBy (add (moment_at log now) (Closed c Withdrawn) log)) (sym is) (closing_written settings log c Withdrawn (moment_at log now))

pub leaving_written : (settings : LimitAndFirst) (log : List Entry) (transfer now : ℕ) → waits log transfer ≡ true → after_withdraw settings log transfer now ≡ record { moment = moment_at log now; event = Left transfer } ∷ log
leaving_written settings log transfer now waiting = rw waiting refl

pub limit_written : (settings : LimitAndFirst) (log : List Entry) (most given now : ℕ) → GrowsBy (record { moment = moment_at log now; event = Limit most } ∷ without_picked (Above most) (moment_at log now) log) (after_limit most given settings log now)
limit_written settings log most given now =
    let moment = moment_at log now in
    let limited = add moment (Limit most) (without_picked (Above most) moment log) in
    grows_for_first settings moment limited given limited (grows_same limited)
