-- Where an acquire asks the budget for one connection more, and what it then comes to.
use Rattle.std.proofs.Common.{◌≡◌, ℕ, ◌+◌, ◌≤◌, Bool, true, false, not, ◌&&◌, List, [], ◌∷◌, length, filter, Option, Some, None, refl, sym, ap, subst, ◌∙◌, arith}
use Rattle.std.specs.Prelude.{if◌then◌else◌, max, is_none}
use Rattle.budget.specs.declared.permits.Try.{Try}
use Rattle.budget.specs.declared.permits.Try.TheVariants.{Got, Full, Contended}
use Rattle.conn_log.specs.declared.entry.Want.{Want}
use Rattle.conn_log.specs.declared.entry.Cause.{Cause}
use Rattle.conn_log.specs.declared.entry.Cause.TheVariants.{HostRoom, TotalRoom}
use Rattle.conn_log.specs.declared.entry.Event.TheVariants.{Closed}
use Rattle.conn_log.specs.declared.entry.Entry.{Entry}
use Rattle.conn_log.specs.Connections.{is_closed, open_connections, idle_connections, last_moment}
use Rattle.conn_log.specs.Waiting.{waiting}
use Rattle.conn_log.specs.Fit.{newest_fit, oldest, is_idle_longer, in_order, is_too_old_in_lane}
use Rattle.conn_log.specs.Legal.{LimitAndFirst}
use Rattle.conn_log.proofs.Firsts.{first_among}
use Rattle.conn_log.proofs.Soundness.{next_is_new}
use Rattle.conn_log.proofs.Steps.{new_not_closed, idle_open_unheld, fewer_open, gone_closed}
use Rattle.host_state.specs.Steps.{moment_at, add, close_each, cause_of, picked, is_full, next_number}
use Rattle.host_state.specs.declared.closing.Closing.TheVariants.{TooOld}
use Rattle.host_state.specs.Calls.{Reply, no_room, again, Acquired, acquired, start, start_behind, start_on, start_as_told, start_in_place_of, start_in_place, start_new, is_anyone}
use Rattle.host_state.specs.Effects.{open_len, tidied, asks_for_one, Closes}
use Rattle.host_state.specs.Laws.{IsSoundAndQuiet}
use Rattle.host_state.proofs.Soundness.{someone}
use Rattle.host_state.proofs.TooOldCloses.{none_too_old_left}
use Rattle.host_state.proofs.Counts.{acquire_tidies}

-- closing leaves who waits, and a call's moment
still_wait : (cause : Cause) (moment : ℕ) (numbers : List ℕ) (log : List Entry) → waiting (close_each cause moment numbers log) ≡ waiting log
still_wait cause moment [] log = refl
still_wait cause moment (c ∷ numbers) log = still_wait cause moment numbers (add moment (Closed c cause) log)

same_moment : (cause : Cause) (moment now : ℕ) (numbers : List ℕ) (log : List Entry) → moment_at log now ≡ moment → moment_at (close_each cause moment numbers log) now ≡ moment
same_moment cause moment now [] log is = is
same_moment cause moment now (c ∷ numbers) log is = same_moment cause moment now numbers (add moment (Closed c cause) log) (later is)
  where
    later : max now (last_moment log) ≡ moment → max now moment ≡ moment
    later e = omega (arith, e)

-- where nothing is idle nothing is too old
pub nothing_tidied : (want : Want) (moment : ℕ) (log : List Entry) → idle_connections log ≡ [] → tidied want moment log ≡ log
nothing_tidied want moment log none =
    ap (λ (numbers : List ℕ). close_each (cause_of (TooOld want)) moment (filter (is_too_old_in_lane log want moment) (in_order (is_idle_longer log) numbers)) log) none

pub tidied_waiting : (want : Want) (moment : ℕ) (log : List Entry) → waiting (tidied want moment log) ≡ waiting log
tidied_waiting want moment log = still_wait (cause_of (TooOld want)) moment (picked (TooOld want) moment log) log

pub tidied_moment : (want : Want) (now : ℕ) (log : List Entry) → moment_at (tidied want (moment_at log now) log) now ≡ moment_at log now
tidied_moment want now log = let m = moment_at log now in same_moment (cause_of (TooOld want)) m now (picked (TooOld want) m log) log refl

-- once tidied nothing is left to tidy
pub tidied_once : (want : Want) (moment : ℕ) (log : List Entry) → tidied want moment (tidied want moment log) ≡ tidied want moment log
tidied_once want moment log =
    ap (λ (numbers : List ℕ). close_each (cause_of (TooOld want)) moment numbers (tidied want moment log)) (none_too_old_left want moment log)

module _ (settings : LimitAndFirst) (want : Want) (now : ℕ) where
  abbrev pub tidy : List Entry → List Entry
  tidy log = tidied want (moment_at log now) log

  -- whether the budget is asked
  abbrev pub asks : List Entry → Bool
  asks log = asks_for_one settings (tidy log) want (moment_at log now)

  -- what is too old is closed by the acquire too
  pub tidied_before : (is_last : Bool) (told : Try) (log : List Entry) → IsSoundAndQuiet settings log → acquired is_last told settings (tidy log) want now ≡ acquired is_last told settings log want now
  tidied_before is_last told log kept = by_queue (waiting log) refl
    where
      m : ℕ
      m = moment_at log now

      by_queue : (wants : List Want) → waiting log ≡ wants → acquired is_last told settings (tidy log) want now ≡ start_behind wants is_last told settings want m log
      by_queue [] is =
          ap (λ (w : List Want). start_behind w is_last told settings want (moment_at (tidy log) now) (tidy log)) (tidied_waiting want m log ∙ is)
          ∙ ap (λ (n : ℕ). start is_last told settings want n (tidied want n (tidy log))) (tidied_moment want now log)
          ∙ ap (start is_last told settings want m) (tidied_once want m log)
      by_queue (head ∷ others) is =
          let same = nothing_tidied want m log (kept.quiet.none_idle (someone log head others is)) in
          ap (λ (l : List Entry). acquired is_last told settings l want now) same
          ∙ ap (λ (w : List Want). start_behind w is_last told settings want m log) is

  -- where the budget is not asked its answer does not matter, and where it is all follows from the answer
  pub by_asking : (is_last : Bool) (told : Try) (log : List Entry) → acquired is_last told settings log want now ≡ (if asks log then start_as_told is_last told settings want (moment_at log now) (tidy log) else acquired true Full settings log want now)
  by_asking is_last told log = by_queue (waiting log) (tidied_waiting want (moment_at log now) log)
    where
      m : ℕ
      m = moment_at log now

      young : List Entry
      young = tidy log

      by_queue : (wants : List Want) → waiting young ≡ wants
          → start_behind wants is_last told settings want m log ≡ (if asks log then start_as_told is_last told settings want m young else start_behind wants true Full settings want m log)
      by_queue (head ∷ others) is = sym (ap (λ (b : Bool). if b then start_as_told is_last told settings want m young else start_behind (head ∷ others) true Full settings want m log) unasked)
        where
          unasked : asks log ≡ false
          unasked = ap (λ (w : List Want). not (is_anyone w) && is_none (newest_fit young want m) && not (is_full settings young)) is
      by_queue [] is = by_fit (newest_fit young want m) refl
        where
          asks_by : (fit : Option ℕ) (full : Bool) → newest_fit young want m ≡ fit → is_full settings young ≡ full → asks log ≡ (is_none {T = ℕ} fit && not full)
          asks_by fit full fit_is full_is =
              ap (λ (w : List Want). not (is_anyone w) && is_none (newest_fit young want m) && not (is_full settings young)) is
              ∙ ap (λ (f : Option ℕ). is_none {T = ℕ} f && not (is_full settings young)) fit_is
              ∙ ap (λ (b : Bool). is_none {T = ℕ} fit && not b) full_is

          chosen : (b : Bool) → asks log ≡ b → (if asks log then start_as_told is_last told settings want m young else start true Full settings want m young) ≡ (if b then start_as_told is_last told settings want m young else start true Full settings want m young)
          chosen b e = ap (λ (a : Bool). if a then start_as_told is_last told settings want m young else start true Full settings want m young) e

          by_full : (full : Bool) → is_full settings young ≡ full → newest_fit young want m ≡ None
              → (if full then start_in_place HostRoom settings want m young else start_as_told is_last told settings want m young) ≡ (if asks log then start_as_told is_last told settings want m young else start true Full settings want m young)
          by_full true full_is none =
              sym (chosen false (asks_by None true none full_is)
              ∙ ap (λ (f : Option ℕ). start_on f true Full settings want m young) none
              ∙ ap (λ (b : Bool). if b then start_in_place HostRoom settings want m young else start_as_told true Full settings want m young) full_is)
          by_full false full_is none = sym (chosen true (asks_by None false none full_is))

          by_fit : (fit : Option ℕ) → newest_fit young want m ≡ fit
              → start_on (newest_fit young want m) is_last told settings want m young ≡ (if asks log then start_as_told is_last told settings want m young else start true Full settings want m young)
          by_fit (Some c) fit_is =
              ap (λ (f : Option ℕ). start_on f is_last told settings want m young) fit_is
              ∙ sym (chosen false (asks_by (Some c) (is_full settings young) fit_is refl) ∙ ap (λ (f : Option ℕ). start_on f true Full settings want m young) fit_is)
          by_fit None fit_is = ap (λ (f : Option ℕ). start_on f is_last told settings want m young) fit_is ∙ by_full (is_full settings young) refl fit_is

  pub asked : (is_last : Bool) (told : Try) (log : List Entry) → asks log ≡ true → acquired is_last told settings log want now ≡ start_as_told is_last told settings want (moment_at log now) (tidy log)
  asked is_last told log is = by_asking is_last told log ∙ ap (λ (b : Bool). if b then start_as_told is_last told settings want (moment_at log now) (tidy log) else acquired true Full settings log want now) is

  pub unasked : (is_last : Bool) (told : Try) (log : List Entry) → asks log ≡ false → acquired is_last told settings log want now ≡ acquired true Full settings log want now
  unasked is_last told log is = by_asking is_last told log ∙ ap (λ (b : Bool). if b then start_as_told is_last told settings want (moment_at log now) (tidy log) else acquired true Full settings log want now) is

  -- a start on a new connection opens one more
  one_more : (log : List Entry) (moment : ℕ) → IsSoundAndQuiet settings log → open_len (start_new settings want moment log) ≡ open_len log + 1
  one_more log moment kept =
      let c = next_number settings log in
      let orderly = kept.sound.orderly in
      counted (is_closed log c) (new_not_closed settings log orderly c (next_is_new settings log orderly c refl))
    where
      counted : (closed : Bool) → closed ≡ false → length (if not closed then next_number settings log ∷ open_connections log else open_connections log) ≡ open_len log + 1
      counted true e = absurd (cc)
      counted false e = omega arith

  opened_most : (log : List Entry) (moment : ℕ) → open_len (start_new settings want moment log) ≤ open_len log + 1
  opened_most log moment = counted (is_closed log (next_number settings log))
    where
      counted : (closed : Bool) → length (if not closed then next_number settings log ∷ open_connections log else open_connections log) ≤ open_len log + 1
      counted true = omega arith
      counted false = omega arith

  -- where the total has no room no more are open than before
  in_place : (log : List Entry) (moment : ℕ) (cause : Cause) → IsSoundAndQuiet settings log → open_len (start_in_place cause settings want moment log).log ≤ open_len log
  in_place log moment cause kept = by_oldest (oldest log) refl
    where
      by_oldest : (first : Option ℕ) → oldest log ≡ first → open_len (start_in_place_of first cause settings want moment log).log ≤ open_len log
      by_oldest None is = omega arith
      by_oldest (Some c) is =
          let closed = add moment (Closed c cause) log in
          let idle = first_among (is_idle_longer log) (idle_connections log) c is in
          let unheld = idle_open_unheld log c idle in
          omega (arith, fewer_open settings log kept.sound.orderly c closed (gone_closed moment c cause log) unheld.0, opened_most closed moment)

  -- what the two answers come to, beside how many were open
  module _ (log : List Entry) (kept : IsSoundAndQuiet settings log) (is : asks log ≡ true) where
    closes : Closes (length (picked (TooOld want) (moment_at log now) log)) settings log (tidy log)
    closes = acquire_tidies settings log want now kept

    pub given_opens : (is_last : Bool) → open_len (acquired is_last Got settings log want now).log ≡ open_len (tidy log) + 1
    given_opens is_last = ap (λ (a : Acquired). open_len a.log) (asked is_last Got log is) ∙ one_more (tidy log) (moment_at log now) closes.settled

    pub full_opens_none : open_len (acquired true Full settings log want now).log ≤ open_len log
    full_opens_none = omega (arith, ap (λ (a : Acquired). open_len a.log) (asked true Full log is), in_place (tidy log) (moment_at log now) TotalRoom closes.settled, closes.number_open)

  -- the last try comes to a start or a wait, whatever an answer that is none to ask again
  pub last_begins_as_told : (told : Try) (log : List Entry) → (told ≡ Contended → ⊥) → ((acquired true told settings log want now).reply ≡ no_room → ⊥) × ((acquired true told settings log want now).reply ≡ again → ⊥)
  last_begins_as_told told log once = by_asks (asks log) refl
    where
      m : ℕ
      m = moment_at log now

      young : List Entry
      young = tidy log

      Begins : Reply → Type 0
      Begins reply = (reply ≡ no_room → ⊥) × (reply ≡ again → ⊥)

      in_place_of : (cause : Cause) (first : Option ℕ) → Begins (start_in_place_of first cause settings want m young).reply
      in_place_of cause None = (λ e. cc, λ e. cc)
      in_place_of cause (Some c) = (λ e. cc, λ e. cc)

      by_answer : (answer : Try) → told ≡ answer → Begins (start_as_told true answer settings want m young).reply
      by_answer Got is = (λ e. cc, λ e. cc)
      by_answer Contended is = absurd (once is)
      by_answer Full is = in_place_of TotalRoom (oldest young)

      by_full : (full : Bool) → Begins (if full then start_in_place HostRoom settings want m young else start_in_place TotalRoom settings want m young).reply
      by_full true = in_place_of HostRoom (oldest young)
      by_full false = in_place_of TotalRoom (oldest young)

      by_fit : (fit : Option ℕ) → Begins (start_on fit true Full settings want m young).reply
      by_fit (Some c) = (λ e. cc, λ e. cc)
      by_fit None = by_full (is_full settings young)

      by_queue : (wants : List Want) → Begins (start_behind wants true Full settings want m log).reply
      by_queue [] = by_fit (newest_fit young want m)
      by_queue (head ∷ others) = (λ e. cc, λ e. cc)

      by_asks : (a : Bool) → asks log ≡ a → Begins (acquired true told settings log want now).reply
      by_asks true is = subst (λ (a : Acquired). Begins a.reply) (sym (asked true told log is)) (by_answer told refl)
      by_asks false is = subst (λ (a : Acquired). Begins a.reply) (sym (unasked true told log is)) (by_queue (waiting log))

  -- nor is one asked again that is not the last, where the budget is not
  pub once_as_told : (told : Try) (log : List Entry) → (told ≡ Contended → ⊥) → (acquired false told settings log want now).reply ≡ again → ⊥
  once_as_told told log once e = by_asks (asks log) refl
    where
      by_answer : (answer : Try) → told ≡ answer → (start_as_told false answer settings want (moment_at log now) (tidy log)).reply ≡ again → ⊥
      by_answer Got is a = cc
      by_answer Contended is a = once is
      by_answer Full is a = cc

      by_asks : (b : Bool) → asks log ≡ b → ⊥
      by_asks true is = by_answer told refl (sym (ap (λ (a : Acquired). a.reply) (asked false told log is)) ∙ e)
      by_asks false is = (last_begins_as_told Got log (λ c. cc)).1 (ap (λ (a : Acquired). a.reply) (unasked true Got log is ∙ sym (unasked false told log is)) ∙ e)
