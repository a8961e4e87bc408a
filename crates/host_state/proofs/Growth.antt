-- Each call's log grows from the log before it.
use Rattle.std.proofs.Common.{◌≡◌, ℕ, zero, suc, Bool, true, false, List, [], ◌∷◌, Option, Some, None, refl, ap, subst}
use Rattle.std.specs.Prelude.{if◌then◌else◌}
use Rattle.persistence.specs.declared.facts.Facts.{Facts}
use Rattle.budget.specs.declared.permits.Try.{Try}
use Rattle.budget.specs.declared.permits.Try.TheVariants.{Got, Full, Contended}
use Rattle.conn_log.specs.declared.entry.Want.{Want}
use Rattle.conn_log.specs.declared.entry.Cause.{Cause}
use Rattle.conn_log.specs.declared.entry.Cause.TheVariants.{HostRoom, TotalRoom, CacheFull, Dropped, Withdrawn}
use Rattle.conn_log.specs.declared.entry.Event.{Event}
use Rattle.conn_log.specs.declared.entry.Event.TheVariants.{Leased, Returned, Closed, Waited, Left, Limit}
use Rattle.conn_log.specs.declared.entry.Entry.{Entry}
use Rattle.conn_log.specs.Connections.{held_number}
use Rattle.conn_log.specs.Waiting.{waiting, waits}
use Rattle.conn_log.specs.Fit.{is_fit, newest_fit, oldest}
use Rattle.conn_log.specs.Legal.{LimitAndFirst, owed}
use Rattle.host_state.specs.declared.closing.Closing.{Closing}
use Rattle.host_state.specs.declared.closing.Closing.TheVariants.{TooOld, Pruned, Above}
use Rattle.host_state.specs.Steps.{add, moment_at, close_each, cause_of, picked, without_picked, is_full}
use Rattle.host_state.specs.Calls.{Returning, spent, start_new, start_in_place_of, start_in_place, start_as_told, start_on, start_behind, acquired, open_for, open_for_head, open_for_first, unfit_cause, grant_to, settle, returned, after_give_back, becomes_idle, keep_as_told, given_back, after_close, after_abandon, close_granted, after_withdraw, after_turn, after_limit, GrowsBy}

pub grows_same : (log : List Entry) → GrowsBy log log
grows_same log = ([], refl)

pub grows_by_one : (moment : ℕ) (event : Event) (old log : List Entry) → GrowsBy old log → GrowsBy old (add moment event log)
grows_by_one moment event old log grew = (record { moment = moment; event = event } ∷ grew.0, ap (add moment event) grew.1)

-- a choice of two logs
grows_either : (old log other : List Entry) (first : Bool) → GrowsBy old log → GrowsBy old other → GrowsBy old (if first then log else other)
grows_either old log other true grew also = grew
grows_either old log other false grew also = also

grows_closing : (cause : Cause) (moment : ℕ) (numbers : List ℕ) (old log : List Entry) → GrowsBy old log → GrowsBy old (close_each cause moment numbers log)
grows_closing cause moment [] old log grew = grew
grows_closing cause moment (c ∷ numbers) old log grew = grows_closing cause moment numbers old (add moment (Closed c cause) log) (grows_by_one moment (Closed c cause) old log grew)

pub grows_without : (closing : Closing) (moment : ℕ) (log : List Entry) → GrowsBy log (without_picked closing moment log)
grows_without closing moment log = grows_closing (cause_of closing) moment (picked closing moment log) log log (grows_same log)

module _ (settings : LimitAndFirst) (moment : ℕ) (old : List Entry) where
  grows_in_place : (cause : Cause) (want : Want) (log : List Entry) → GrowsBy old log → (first : Option ℕ) → GrowsBy old (start_in_place_of first cause settings want moment log).log
  grows_in_place cause want log grew None = grows_by_one moment (Waited want) old log grew
  grows_in_place cause want log grew (Some c) = grows_by_one moment _ old _ (grows_by_one moment (Closed c cause) old log grew)

  grows_as_told : (want : Want) (log : List Entry) → GrowsBy old log → (is_last : Bool) (told : Try) → GrowsBy old (start_as_told is_last told settings want moment log).log
  grows_as_told want log grew is_last Got = grows_by_one moment _ old log grew
  grows_as_told want log grew is_last Contended = grew
  grows_as_told want log grew false Full = grew
  grows_as_told want log grew true Full = grows_in_place TotalRoom want log grew (oldest log)

  grows_start : (want : Want) (log : List Entry) → GrowsBy old log → (fit : Option ℕ) (is_last : Bool) (told : Try) → GrowsBy old (start_on fit is_last told settings want moment log).log
  grows_start want log grew (Some c) is_last told = grows_by_one moment (Leased c want) old log grew
  grows_start want log grew None is_last told = by_room (is_full settings log)
    where
      by_room : (full : Bool) → GrowsBy old (if full then start_in_place HostRoom settings want moment log else start_as_told is_last told settings want moment log).log
      by_room true = grows_in_place HostRoom want log grew (oldest log)
      by_room false = grows_as_told want log grew is_last told

  pub grows_for : (log : List Entry) → GrowsBy old log → (wants : List Want) → GrowsBy old (open_for settings moment log wants)
  grows_for log grew [] = grew
  grows_for log grew (head ∷ others) = grows_by_one moment _ old log grew

  pub grows_for_first : (given : ℕ) (log : List Entry) → GrowsBy old log → GrowsBy old (open_for_first given settings moment log)
  grows_for_first zero log grew = grew
  grows_for_first (suc n) log grew = grows_for_first n (open_for_head settings moment log) (grows_for log grew (waiting log))

  grows_passed : (c : ℕ) (log : List Entry) → GrowsBy old log → (wants : List Want) → GrowsBy old (grant_to settings c moment log wants)
  grows_passed c log grew [] = grew
  grows_passed c log grew (head ∷ others) =
      let closed = add moment (Closed c (unfit_cause settings log head moment c)) log in
      grows_either old (add moment (Leased c head) log) (start_new settings head moment closed) (is_fit log head moment c) (grows_by_one moment _ old log grew) (grows_by_one moment _ old closed (grows_by_one moment _ old log grew))

  pub grows_settled : (c : ℕ) (log : List Entry) → GrowsBy old log → (owes : Option (ℕ × Cause)) → GrowsBy old (settle settings c moment log owes)
  grows_settled c log grew None = grows_passed c log grew (waiting log)
  grows_settled c log grew (Some close) = let closed = add moment (Closed close.0 close.1) log in grows_for closed (grows_by_one moment _ old log grew) (waiting closed)

-- the log after each call grows from the log before it
pub grows_acquired : (is_last : Bool) (told : Try) (settings : LimitAndFirst) (log : List Entry) (want : Want) (now : ℕ) → GrowsBy log (acquired is_last told settings log want now).log
grows_acquired is_last told settings log want now = by_queue (waiting log)
  where
    by_queue : (wants : List Want) → GrowsBy log (start_behind wants is_last told settings want (moment_at log now) log).log
    by_queue [] =
        let moment = moment_at log now in
        let young = without_picked (TooOld want) moment log in
        grows_start settings moment log want young (grows_without (TooOld want) moment log) (newest_fit young want moment) is_last told
    by_queue (head ∷ others) = grows_by_one (moment_at log now) (Waited want) log log (grows_same log)

pub grows_returned : (log : List Entry) (c : ℕ) (facts : Facts) (now : ℕ) → GrowsBy log (returned log c facts now)
grows_returned log c facts now = grows_by_one (moment_at log now) (Returned c facts) log log (grows_same log)

pub grows_give_back : (settings : LimitAndFirst) (log : List Entry) (c : ℕ) (facts : Facts) (now : ℕ) → GrowsBy log (after_give_back settings log c facts now)
grows_give_back settings log c facts now =
    let back = returned log c facts now in
    grows_settled settings (moment_at log now) log c back (grows_returned log c facts now) (owed back)

pub grows_unkept : (log : List Entry) (c : ℕ) (facts : Facts) (now : ℕ) → GrowsBy log (add (moment_at log now) (Closed c CacheFull) (returned log c facts now))
grows_unkept log c facts now = grows_by_one (moment_at log now) (Closed c CacheFull) log (returned log c facts now) (grows_returned log c facts now)

-- whatever the budget answers to a give back
abbrev GrowsWhereSpent : List Entry → Returning → Type 0
GrowsWhereSpent old (spent log) = GrowsBy old log
GrowsWhereSpent old _ = Unit {0}

pub grows_given_back : (close_if_full : Bool) (told : Try) (settings : LimitAndFirst) (log after : List Entry) (c : ℕ) (facts : Facts) (now : ℕ) → given_back close_if_full told settings log c facts now ≡ spent after → GrowsBy log after
grows_given_back close_if_full told settings log after c facts now is = subst (GrowsWhereSpent log) is (by_rest (becomes_idle log c facts now))
  where
    by_told : (close_if_full : Bool) (told : Try) → GrowsWhereSpent log (keep_as_told close_if_full told c (moment_at log now) (returned log c facts now))
    by_told close_if_full Got = grows_returned log c facts now
    by_told close_if_full Contended = tt
    by_told true Full = grows_unkept log c facts now
    by_told false Full = tt

    by_rest : (idle : Bool) → GrowsWhereSpent log (if idle then keep_as_told close_if_full told c (moment_at log now) (returned log c facts now) else spent (after_give_back settings log c facts now))
    by_rest true = by_told close_if_full told
    by_rest false = grows_give_back settings log c facts now

pub grows_close : (settings : LimitAndFirst) (log : List Entry) (c : ℕ) (cause : Cause) (now : ℕ) → GrowsBy log (after_close settings log c cause now)
grows_close settings log c cause now =
    let moment = moment_at log now in
    let closed = add moment (Closed c cause) log in
    grows_for settings moment log closed (grows_by_one moment (Closed c cause) log log (grows_same log)) (waiting closed)

pub grows_abandon : (settings : LimitAndFirst) (log : List Entry) (c now : ℕ) → GrowsBy log (after_abandon settings log c now)
grows_abandon settings log c now = grows_close settings log c Dropped now

pub grows_withdraw : (settings : LimitAndFirst) (log : List Entry) (transfer now : ℕ) → GrowsBy log (after_withdraw settings log transfer now)
grows_withdraw settings log transfer now = grows_either log (add (moment_at log now) (Left transfer) log) (close_granted settings log (held_number log transfer) now) (waits log transfer) (grows_by_one (moment_at log now) (Left transfer) log log (grows_same log)) (by_number (held_number log transfer))
  where
    by_number : (held : Option ℕ) → GrowsBy log (close_granted settings log held now)
    by_number None = grows_same log
    by_number (Some c) = grows_close settings log c Withdrawn now

pub grows_turn : (told : Try) (settings : LimitAndFirst) (log : List Entry) (now : ℕ) → GrowsBy log (after_turn told settings log now)
grows_turn Got settings log now = grows_for settings (moment_at log now) log log (grows_same log) (waiting log)
grows_turn Full settings log now = grows_same log
grows_turn Contended settings log now = grows_same log

pub grows_evict : (log : List Entry) (c : ℕ) (cause : Cause) (now : ℕ) → GrowsBy log (add (moment_at log now) (Closed c cause) log)
grows_evict log c cause now = grows_by_one (moment_at log now) (Closed c cause) log log (grows_same log)

pub grows_prune : (log : List Entry) (max_age max_life now : ℕ) → GrowsBy log (without_picked (Pruned max_age max_life) (moment_at log now) log)
grows_prune log max_age max_life now = grows_without (Pruned max_age max_life) (moment_at log now) log

pub grows_limit : (most given : ℕ) (settings : LimitAndFirst) (log : List Entry) (now : ℕ) → GrowsBy log (after_limit most given settings log now)
grows_limit most given settings log now =
    let moment = moment_at log now in
    let young = without_picked (Above most) moment log in
    grows_for_first settings moment log given (add moment (Limit most) young) (grows_by_one moment (Limit most) log young (grows_without (Above most) moment log))
