-- How the log of one host grows after a transfer, and the lines of the entries that it grew by.
use Rattle.std.proofs.Common.{◌≡◌, ℕ, zero, suc, ◌-◌, Bool, true, false, List, [], ◌∷◌, ◌++◌, length, drop, reverse, flat_map, refl, ap, sym, subst, ◌∙◌, arith, Option, Some, None, append-nil}
use Rattle.std.specs.Prelude.{if◌then◌else◌, ◌==◌}
use Rattle.std.specs.Option.{option_map, option_map_or}
use Rattle.std.proofs.lemmas.Bool.{eqb-true}
use Rattle.std.proofs.lemmas.Grind.{flat_map-append}
use Rattle.std.proofs.lemmas.List.{reverse-append, length-reverse, length-append, drop_at, append_assoc}
use Rattle.persistence.specs.declared.facts.Facts.{Facts}
use Rattle.budget.specs.declared.permits.Try.{Try}
use Rattle.budget.specs.declared.permits.Try.TheVariants.{Got, Full, Contended}
use Rattle.conn_log.specs.declared.entry.Want.{Want}
use Rattle.conn_log.specs.declared.entry.Cause.{Cause}
use Rattle.conn_log.specs.declared.entry.Cause.TheVariants.{HostRoom, TotalRoom, Dropped, Withdrawn}
use Rattle.conn_log.specs.declared.entry.Event.{Event}
use Rattle.conn_log.specs.declared.entry.Event.TheVariants.{Opened, Leased, Returned, Closed, Waited, Left, Limit}
use Rattle.conn_log.specs.declared.entry.Entry.{Entry}
use Rattle.conn_log.specs.Connections.{holder, is_held_by, holder_want, held_number}
use Rattle.conn_log.specs.Waiting.{waiting, waits}
use Rattle.conn_log.specs.Legal.{LimitAndFirst, owed}
use Rattle.conn_log.specs.Fit.{is_fit, newest_fit, oldest}
use Rattle.host_state.specs.declared.closing.Closing.{Closing}
use Rattle.host_state.specs.declared.closing.Closing.TheVariants.{TooOld, Pruned, Above}
use Rattle.host_state.specs.Steps.{add, moment_at, close_each, cause_of, picked, without_picked, is_full}
use Rattle.host_state.specs.Calls.{acquired, start_new, start_in_place_of, start_in_place, start_as_told, start_on, start_behind, open_for, open_for_head, open_for_first, unfit_cause, grant_to, settle, returned, after_give_back, after_close, after_abandon, close_granted, after_withdraw, after_turn, after_limit, GrowsBy}
use Rattle.script_text.specs.Printing.{entry_line, event_text, returned_by, newest_lines, lines_since}
use Rattle.script_engine.specs.Telling.{SaysAll, IsReturnedBy, GrowsAfter}

-- the lines of the new entries: each names the transfer that the connection comes back from
event-says : (host by : ℕ) (event : Event) (before : List Entry) → IsReturnedBy by event before → event_text host (returned_by before event) event ≡ event_text host by event
event-says host by (Opened c want) before says = refl
event-says host by (Leased c want) before says = refl
event-says host by (Returned c facts) before says = rw says refl
event-says host by (Closed c cause) before says = refl
event-says host by (Waited want) before says = refl
event-says host by (Left transfer) before says = refl
event-says host by (Limit n) before says = refl

entry-says : (host by : ℕ) (e : Entry) (before : List Entry) → IsReturnedBy by e.event before → entry_line host (returned_by before e.event) e ≡ entry_line host by e
entry-says host by e before says = rw (event-says host by e.event before says) refl

turned : (host by : ℕ) (e : Entry) (added : List Entry) → flat_map (entry_line host by) (reverse (e ∷ added)) ≡ flat_map (entry_line host by) (reverse added) ++ entry_line host by e
turned host by e added =
    ap (flat_map (entry_line host by)) (reverse-append (e ∷ []) added)
    ∙ flat_map-append (entry_line host by) (reverse added) (e ∷ [])
    ∙ ap (λ l. flat_map (entry_line host by) (reverse added) ++ l) (append-nil (entry_line host by e))

newest : (host by : ℕ) (added old : List Entry) → SaysAll (IsReturnedBy by) added old → newest_lines host (length added) (added ++ old) ≡ flat_map (entry_line host by) (reverse added)
newest host by [] old says = refl
newest host by (e ∷ added) old says =
    ap (λ l. newest_lines host (length added) (added ++ old) ++ l) (entry-says host by e (added ++ old) says.0)
    ∙ ap (λ l. l ++ entry_line host by e) (newest host by added old says.1)
    ∙ sym (turned host by e added)

pub count-added : (added old : List Entry) → length (added ++ old) - length old ≡ length added
count-added added old = simp length-append (omega arith)

oldest-first : (added old : List Entry) → drop (length old) (reverse (added ++ old)) ≡ reverse added
oldest-first added old = rw (reverse-append added old) (drop_at (reverse old) (reverse added) (length old) (length-reverse old))

grown-lines : (host by : ℕ) (added old : List Entry) → SaysAll (IsReturnedBy by) added old
    → flat_map (entry_line host by) (drop (length old) (reverse (added ++ old))) ≡ newest_lines host (length (added ++ old) - length old) (added ++ old)
grown-lines host by added old says =
    ap (flat_map (entry_line host by)) (oldest-first added old)
    ∙ sym (newest host by added old says)
    ∙ ap (λ n. newest_lines host n (added ++ old)) (sym (count-added added old))

-- what is written of the entries from a place on is what the definition says of the new ones
pub lines-grown : (host by : ℕ) (old new : List Entry) → GrowsAfter by old new
    → flat_map (entry_line host by) (drop (length old) (reverse new)) ≡ lines_since host old new
unfolding lines_since
lines-grown host by old new grows = rw grows.whole (grown-lines host by grows.added old grows.says)

pub grown-by : (by : ℕ) (old new : List Entry) → GrowsAfter by old new → GrowsBy old new
grown-by by old new grows = (grows.added, grows.whole)

-- one growth after another
both-say : (by : ℕ) (added sooner old : List Entry) → SaysAll (IsReturnedBy by) added (sooner ++ old) → SaysAll (IsReturnedBy by) sooner old → SaysAll (IsReturnedBy by) (added ++ sooner) old
both-say by [] sooner old later says = says
both-say by (e ∷ added) sooner old later says =
    (subst (IsReturnedBy by e.event) (sym (append_assoc added sooner old)) later.0, both-say by added sooner old later.1 says)

pub grows-on : (by : ℕ) (first second third : List Entry) → GrowsAfter by first second → GrowsAfter by second third → GrowsAfter by first third
grows-on by first second third grew more = record {
  added = more.added ++ grew.added;
  whole = more.whole ∙ ap (λ (log : List Entry). more.added ++ log) grew.whole ∙ sym (append_assoc more.added grew.added first);
  says = both-say by more.added grew.added first (subst (SaysAll (IsReturnedBy by) more.added) grew.whole more.says) grew.says;
}

pub grows-none : (by : ℕ) (log : List Entry) → GrowsAfter by log log
grows-none by log = record { added = []; whole = refl; says = tt }

module _ (by : ℕ) (old : List Entry) where
  pub grows-one : (moment : ℕ) (event : Event) (log : List Entry) → IsReturnedBy by event log → GrowsAfter by old log → GrowsAfter by old (add moment event log)
  grows-one moment event log says so_far = record {
    added = record { moment = moment; event = event } ∷ so_far.added;
    whole = ap (add moment event) so_far.whole;
    says = (subst (IsReturnedBy by event) so_far.whole says, so_far.says);
  }

  either : (first : Bool) (x y : List Entry) → GrowsAfter by old x → GrowsAfter by old y → GrowsAfter by old (if first then x else y)
  either true x y p q = p
  either false x y p q = q

  closes : (cause : Cause) (moment : ℕ) (numbers : List ℕ) (log : List Entry) → GrowsAfter by old log → GrowsAfter by old (close_each cause moment numbers log)
  closes cause moment [] log so_far = so_far
  closes cause moment (c ∷ numbers) log so_far = closes cause moment numbers (add moment (Closed c cause) log) (grows-one moment (Closed c cause) log tt so_far)

  in_place : (cause : Cause) (settings : LimitAndFirst) (want : Want) (moment : ℕ) (log : List Entry) (first : Option ℕ) → GrowsAfter by old log → GrowsAfter by old (start_in_place_of first cause settings want moment log).log
  in_place cause settings want moment log None so_far = grows-one moment (Waited want) log tt so_far
  in_place cause settings want moment log (Some c) so_far = grows-one moment _ _ tt (grows-one moment (Closed c cause) log tt so_far)

  as_told : (is_last : Bool) (told : Try) (settings : LimitAndFirst) (want : Want) (moment : ℕ) (log : List Entry) → GrowsAfter by old log → GrowsAfter by old (start_as_told is_last told settings want moment log).log
  as_told is_last Got settings want moment log so_far = grows-one moment _ log tt so_far
  as_told is_last Contended settings want moment log so_far = so_far
  as_told false Full settings want moment log so_far = so_far
  as_told true Full settings want moment log so_far = in_place TotalRoom settings want moment log (oldest log) so_far

  starts_on : (is_last : Bool) (told : Try) (settings : LimitAndFirst) (want : Want) (moment : ℕ) (log : List Entry) (fit : Option ℕ) → GrowsAfter by old log → GrowsAfter by old (start_on fit is_last told settings want moment log).log
  starts_on is_last told settings want moment log (Some c) so_far = grows-one moment (Leased c want) log tt so_far
  starts_on is_last told settings want moment log None so_far = by_room (is_full settings log)
    where
      by_room : (full : Bool) → GrowsAfter by old (if full then start_in_place HostRoom settings want moment log else start_as_told is_last told settings want moment log).log
      by_room true = in_place HostRoom settings want moment log (oldest log) so_far
      by_room false = as_told is_last told settings want moment log so_far

  opens_for : (settings : LimitAndFirst) (moment : ℕ) (log : List Entry) (wants : List Want) → GrowsAfter by old log → GrowsAfter by old (open_for settings moment log wants)
  opens_for settings moment log [] so_far = so_far
  opens_for settings moment log (head ∷ others) so_far = grows-one moment _ log tt so_far

  opens_for_first : (given : ℕ) (settings : LimitAndFirst) (moment : ℕ) (log : List Entry) → GrowsAfter by old log → GrowsAfter by old (open_for_first given settings moment log)
  opens_for_first zero settings moment log so_far = so_far
  opens_for_first (suc n) settings moment log so_far = opens_for_first n settings moment (open_for_head settings moment log) (opens_for settings moment log (waiting log) so_far)

  grants : (settings : LimitAndFirst) (c moment : ℕ) (log : List Entry) (wants : List Want) → GrowsAfter by old log → GrowsAfter by old (grant_to settings c moment log wants)
  grants settings c moment log [] so_far = so_far
  grants settings c moment log (head ∷ others) so_far =
      let closed = add moment (Closed c (unfit_cause settings log head moment c)) log in
      either (is_fit log head moment c) (add moment (Leased c head) log) (start_new settings head moment closed) (grows-one moment (Leased c head) log tt so_far)
      (grows-one moment _ closed tt (grows-one moment _ log tt so_far))

  settles : (settings : LimitAndFirst) (c moment : ℕ) (log : List Entry) (owes : Option (ℕ × Cause)) → GrowsAfter by old log → GrowsAfter by old (settle settings c moment log owes)
  settles settings c moment log None so_far = grants settings c moment log (waiting log) so_far
  settles settings c moment log (Some close) so_far =
      let closed = add moment (Closed close.0 close.1) log in
      opens_for settings moment closed (waiting closed) (grows-one moment (Closed close.0 close.1) log tt so_far)

-- each step of a call at one host
pub closed-grows : (by : ℕ) (log : List Entry) (c : ℕ) (cause : Cause) (now : ℕ) → GrowsAfter by log (add (moment_at log now) (Closed c cause) log)
closed-grows by log c cause now = grows-one by log (moment_at log now) (Closed c cause) log tt (grows-none by log)

pub without-grows : (by : ℕ) (closing : Closing) (moment : ℕ) (log : List Entry) → GrowsAfter by log (without_picked closing moment log)
without-grows by closing moment log = closes by log (cause_of closing) moment (picked closing moment log) log (grows-none by log)

pub acquired-grows : (by : ℕ) (is_last : Bool) (told : Try) (settings : LimitAndFirst) (log : List Entry) (want : Want) (now : ℕ) → GrowsAfter by log (acquired is_last told settings log want now).log
acquired-grows by is_last told settings log want now = by_queue (waiting log)
  where
    by_queue : (wants : List Want) → GrowsAfter by log (start_behind wants is_last told settings want (moment_at log now) log).log
    by_queue [] =
        let moment = moment_at log now in
        let young = without_picked (TooOld want) moment log in
        starts_on by log is_last told settings want moment young (newest_fit young want moment) (without-grows by (TooOld want) moment log)
    by_queue (head ∷ others) = grows-one by log (moment_at log now) (Waited want) log tt (grows-none by log)

pub given_back-grows : (by : ℕ) (settings : LimitAndFirst) (log : List Entry) (c : ℕ) (facts : Facts) (now : ℕ) → holder log c ≡ Some by → GrowsAfter by log (after_give_back settings log c facts now)
given_back-grows by settings log c facts now held =
    let back = returned log c facts now in
    settles by log settings c (moment_at log now) back (owed back) (grows-one by log (moment_at log now) (Returned c facts) log held (grows-none by log))

closed_by-grows : (by : ℕ) (settings : LimitAndFirst) (log : List Entry) (c : ℕ) (cause : Cause) (now : ℕ) → GrowsAfter by log (after_close settings log c cause now)
closed_by-grows by settings log c cause now =
    let moment = moment_at log now in
    let closed = add moment (Closed c cause) log in
    opens_for by log settings moment closed (waiting closed) (closed-grows by log c cause now)

pub abandoned-grows : (by : ℕ) (settings : LimitAndFirst) (log : List Entry) (c now : ℕ) → GrowsAfter by log (after_abandon settings log c now)
abandoned-grows by settings log c now = closed_by-grows by settings log c Dropped now

pub withdrawn-grows : (by : ℕ) (settings : LimitAndFirst) (log : List Entry) (transfer now : ℕ) → GrowsAfter by log (after_withdraw settings log transfer now)
withdrawn-grows by settings log transfer now =
    either by log (waits log transfer) (add (moment_at log now) (Left transfer) log) (close_granted settings log (held_number log transfer) now)
    (grows-one by log (moment_at log now) (Left transfer) log tt (grows-none by log)) (by_number (held_number log transfer))
  where
    by_number : (held : Option ℕ) → GrowsAfter by log (close_granted settings log held now)
    by_number None = grows-none by log
    by_number (Some c) = closed_by-grows by settings log c Withdrawn now

pub turn-grows : (by : ℕ) (told : Try) (settings : LimitAndFirst) (log : List Entry) (now : ℕ) → GrowsAfter by log (after_turn told settings log now)
turn-grows by Got settings log now = opens_for by log settings (moment_at log now) log (waiting log) (grows-none by log)
turn-grows by Full settings log now = grows-none by log
turn-grows by Contended settings log now = grows-none by log

pub pruned-grows : (by : ℕ) (log : List Entry) (max_age max_life now : ℕ) → GrowsAfter by log (without_picked (Pruned max_age max_life) (moment_at log now) log)
pruned-grows by log max_age max_life now = without-grows by (Pruned max_age max_life) (moment_at log now) log

pub limited-grows : (by most given : ℕ) (settings : LimitAndFirst) (log : List Entry) (now : ℕ) → GrowsAfter by log (after_limit most given settings log now)
limited-grows by most given settings log now =
    let moment = moment_at log now in
    let young = without_picked (Above most) moment log in
    opens_for_first by log given settings moment (add moment (Limit most) young) (grows-one by log moment (Limit most) young tt (without-grows by (Above most) moment log))

-- who holds it, as one Bool tells
pub holder-is : (log : List Entry) (by c : ℕ) → is_held_by log by c ≡ true → holder log c ≡ Some by
holder-is log by c held = by_want (holder_want log c) held
  where
    by_want : (want : Option Want) → option_map_or (λ (w : Want). w.transfer == by) want false ≡ true → option_map (λ (w : Want). w.transfer) want ≡ Some by
    by_want None h = cc
    by_want (Some want) h = ap Some (eqb-true want.transfer by h)
