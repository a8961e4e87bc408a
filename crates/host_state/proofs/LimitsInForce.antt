-- The limit in force after each call.
use Rattle.std.proofs.Common.{◌≡◌, ℕ, zero, suc, Bool, true, false, List, [], ◌∷◌, Option, Some, None, refl, subst, ◌∙◌}
use Rattle.std.specs.Prelude.{if◌then◌else◌}
use Rattle.persistence.specs.declared.facts.Facts.{Facts}
use Rattle.budget.specs.declared.permits.Try.{Try}
use Rattle.budget.specs.declared.permits.Try.TheVariants.{Got, Full, Contended}
use Rattle.conn_log.specs.declared.entry.Want.{Want}
use Rattle.conn_log.specs.declared.entry.Cause.{Cause}
use Rattle.conn_log.specs.declared.entry.Cause.TheVariants.{HostRoom, TotalRoom, Dropped, Withdrawn}
use Rattle.conn_log.specs.declared.entry.Event.TheVariants.{Leased, Closed, Left, Limit}
use Rattle.conn_log.specs.declared.entry.Entry.{Entry}
use Rattle.conn_log.specs.Connections.{held_number}
use Rattle.conn_log.specs.Waiting.{waiting, waits}
use Rattle.conn_log.specs.Fit.{is_fit, newest_fit, oldest}
use Rattle.conn_log.specs.Legal.{LimitAndFirst, limit_in_force, owed}
use Rattle.host_state.specs.declared.closing.Closing.{Closing}
use Rattle.host_state.specs.declared.closing.Closing.TheVariants.{TooOld, Above}
use Rattle.host_state.specs.Steps.{add, moment_at, close_each, cause_of, picked, without_picked, is_full}
use Rattle.host_state.specs.Calls.{Returning, spent, not_kept, keep_again, start_new, start_in_place_of, start_in_place, start_as_told, start_on, start_behind, acquired, open_for, open_for_head, open_for_first, unfit_cause, grant_to, settle, returned, after_give_back, becomes_idle, keep_as_told, given_back, after_abandon, close_granted, after_withdraw, after_turn, after_limit}
use Rattle.host_state.specs.LimitsInForce.{KeepsLimit}

module _ (settings : LimitAndFirst) where
  closings_keep : (cause : Cause) (moment : ℕ) (numbers : List ℕ) (log : List Entry) → KeepsLimit settings log (close_each cause moment numbers log)
  closings_keep cause moment [] log = refl
  closings_keep cause moment (c ∷ numbers) log = closings_keep cause moment numbers (add moment (Closed c cause) log)

  pub without_picked_keeps : (closing : Closing) (moment : ℕ) (log : List Entry) → KeepsLimit settings log (without_picked closing moment log)
  without_picked_keeps closing moment log = closings_keep (cause_of closing) moment (picked closing moment log) log

  module _ (moment : ℕ) where
    in_place_keeps : (cause : Cause) (want : Want) (log : List Entry) (first : Option ℕ) → KeepsLimit settings log (start_in_place_of first cause settings want moment log).log
    in_place_keeps cause want log None = refl
    in_place_keeps cause want log (Some c) = refl

    as_told_keeps : (want : Want) (log : List Entry) (is_last : Bool) (told : Try) → KeepsLimit settings log (start_as_told is_last told settings want moment log).log
    as_told_keeps want log is_last Got = refl
    as_told_keeps want log is_last Contended = refl
    as_told_keeps want log false Full = refl
    as_told_keeps want log true Full = in_place_keeps TotalRoom want log (oldest log)

    start_keeps : (want : Want) (log : List Entry) (fit : Option ℕ) (is_last : Bool) (told : Try) → KeepsLimit settings log (start_on fit is_last told settings want moment log).log
    start_keeps want log (Some c) is_last told = refl
    start_keeps want log None is_last told = by_room (is_full settings log)
      where
        by_room : (full : Bool) → KeepsLimit settings log (if full then start_in_place HostRoom settings want moment log else start_as_told is_last told settings want moment log).log
        by_room true = in_place_keeps HostRoom want log (oldest log)
        by_room false = as_told_keeps want log is_last told

    opened_keeps : (log : List Entry) (wants : List Want) → KeepsLimit settings log (open_for settings moment log wants)
    opened_keeps log [] = refl
    opened_keeps log (head ∷ others) = refl

    first_keep : (given : ℕ) (log : List Entry) → KeepsLimit settings log (open_for_first given settings moment log)
    first_keep zero log = refl
    first_keep (suc n) log = first_keep n (open_for_head settings moment log) ∙ opened_keeps log (waiting log)

    passed_keeps : (c : ℕ) (log : List Entry) (wants : List Want) → KeepsLimit settings log (grant_to settings c moment log wants)
    passed_keeps c log [] = refl
    passed_keeps c log (head ∷ others) = by_fit (is_fit log head moment c)
      where
        by_fit : (fits : Bool) → KeepsLimit settings log (if fits then add moment (Leased c head) log else start_new settings head moment (add moment (Closed c (unfit_cause settings log head moment c)) log))
        by_fit true = refl
        by_fit false = refl

    settled_keeps : (c : ℕ) (log : List Entry) (owes : Option (ℕ × Cause)) → KeepsLimit settings log (settle settings c moment log owes)
    settled_keeps c log None = passed_keeps c log (waiting log)
    settled_keeps c log (Some close) = let closed = add moment (Closed close.0 close.1) log in opened_keeps closed (waiting closed)

    closed_keeps : (log : List Entry) (c : ℕ) (cause : Cause) → KeepsLimit settings log (open_for_head settings moment (add moment (Closed c cause) log))
    closed_keeps log c cause = let closed = add moment (Closed c cause) log in opened_keeps closed (waiting closed)

pub acquire_keeps : (is_last : Bool) (told : Try) (settings : LimitAndFirst) (log : List Entry) (want : Want) (now : ℕ) → KeepsLimit settings log (acquired is_last told settings log want now).log
acquire_keeps is_last told settings log want now = by_queue (waiting log)
  where
    by_queue : (wants : List Want) → KeepsLimit settings log (start_behind wants is_last told settings want (moment_at log now) log).log
    by_queue [] =
        let moment = moment_at log now in
        let young = without_picked (TooOld want) moment log in
        start_keeps settings moment want young (newest_fit young want moment) is_last told ∙ without_picked_keeps settings (TooOld want) moment log
    by_queue (head ∷ others) = refl

abbrev KeepsWhereSpent : LimitAndFirst → List Entry → Returning → Type 0
KeepsWhereSpent settings old (spent log) = KeepsLimit settings old log
KeepsWhereSpent settings old not_kept = Unit {0}
KeepsWhereSpent settings old keep_again = Unit {0}

pub give_back_keeps : (close_if_full : Bool) (told : Try) (settings : LimitAndFirst) (log after : List Entry) (c : ℕ) (facts : Facts) (now : ℕ) → given_back close_if_full told settings log c facts now ≡ spent after → KeepsLimit settings log after
give_back_keeps close_if_full told settings log after c facts now is = subst (KeepsWhereSpent settings log) is (by_rest (becomes_idle log c facts now))
  where
    back : List Entry
    back = returned log c facts now

    by_told : (close_if_full : Bool) (told : Try) → KeepsWhereSpent settings log (keep_as_told close_if_full told c (moment_at log now) back)
    by_told close_if_full Got = refl
    by_told close_if_full Contended = tt
    by_told true Full = refl
    by_told false Full = tt

    by_rest : (idle : Bool) → KeepsWhereSpent settings log (if idle then keep_as_told close_if_full told c (moment_at log now) back else spent (after_give_back settings log c facts now))
    by_rest true = by_told close_if_full told
    by_rest false = settled_keeps settings (moment_at log now) c back (owed back)

pub abandon_keeps : (settings : LimitAndFirst) (log : List Entry) (c now : ℕ) → KeepsLimit settings log (after_abandon settings log c now)
abandon_keeps settings log c now = closed_keeps settings (moment_at log now) log c Dropped

pub withdraw_keeps : (settings : LimitAndFirst) (log : List Entry) (transfer now : ℕ) → KeepsLimit settings log (after_withdraw settings log transfer now)
withdraw_keeps settings log transfer now = by_wait (waits log transfer) (held_number log transfer)
  where
    by_wait : (waits_on : Bool) (held : Option ℕ) → KeepsLimit settings log (if waits_on then add (moment_at log now) (Left transfer) log else close_granted settings log held now)
    by_wait true held = refl
    by_wait false None = refl
    by_wait false (Some c) = closed_keeps settings (moment_at log now) log c Withdrawn

pub turn_keeps : (told : Try) (settings : LimitAndFirst) (log : List Entry) (now : ℕ) → KeepsLimit settings log (after_turn told settings log now)
turn_keeps Got settings log now = opened_keeps settings (moment_at log now) log (waiting log)
turn_keeps Full settings log now = refl
turn_keeps Contended settings log now = refl

pub limit_becomes : (settings : LimitAndFirst) (log : List Entry) (most given now : ℕ) → limit_in_force settings (after_limit most given settings log now) ≡ most
limit_becomes settings log most given now =
    let moment = moment_at log now in
    first_keep settings moment given (add moment (Limit most) (without_picked (Above most) moment log))
