-- Each entry that closes a connection closes one that is open, and so the counts add up.
use Rattle.std.proofs.Common.{◌≡◌, ℕ, ◌+◌, Bool, true, false, not, List, [], ◌∷◌, length, Option, Some, None, is_some, refl, sym, ap, subst, ◌∙◌, arith}
use Rattle.std.specs.Prelude.{if◌then◌else◌}
use Rattle.std.specs.Option.{option_and_then}
use mathlib.Core.Bool.{false≢true}
use Rattle.std.proofs.lemmas.Bool.Decides.{nat_tests}
use Rattle.persistence.specs.declared.facts.Facts.{Facts}
use Rattle.conn_log.specs.declared.entry.Want.{Want}
use Rattle.conn_log.specs.declared.entry.Cause.{Cause}
use Rattle.conn_log.specs.declared.entry.Cause.TheVariants.{NotPersistent, Cut, Forbidden, TooOld, HostRoom, TotalRoom, CacheFull, Dropped, Withdrawn, Pruned}
use Rattle.conn_log.specs.declared.entry.Event.{Event}
use Rattle.conn_log.specs.declared.entry.Event.TheVariants.{Opened, Leased, Returned, Closed, Waited, Left, Limit}
use Rattle.conn_log.specs.declared.entry.Entry.{Entry}
use Rattle.conn_log.specs.Connections.{is_among, opened, greatest, is_closed, open_connections, is_open, holder_want, is_idle}
use Rattle.conn_log.specs.Fit.{suits}
use Rattle.conn_log.specs.Legal.{LimitAndFirst, ends_use, ending_cause, owed_for, owed, MayClose, Allows, IsLegal}
use Rattle.conn_log.specs.Sound.{AreDistinct}
use Rattle.conn_log.specs.Counts.{counts}
use Rattle.conn_log.specs.Laws.{OpenAndClosedAreOpened}
use Rattle.conn_log.proofs.Numbers.{length-filter_flip, le-greatest}
use Rattle.conn_log.proofs.Holdings.{holder_returned, holder_closed}
use Rattle.conn_log.proofs.Soundness.{and_left}
use Rattle.conn_log.proofs.Steps.{is_open_is, opened_not_closed, idle_open_unheld}

-- what a legal log keeps, entry for entry: numbers are opened once, and closed only then; what is held is
-- open, and so is what is to be closed next; and the counts add up
pub record AddsUp (log : List Entry) : Type 0 where
  pub distinct : AreDistinct (opened log)
  pub closed_opened : (c : ℕ) → is_closed log c ≡ true → is_among c (opened log) ≡ true
  pub held_open : (c : ℕ) → is_some (holder_want log c) ≡ true → is_open log c ≡ true
  pub owed_open : (c : ℕ) (cause : Cause) → owed log ≡ Some (c, cause) → is_open log c ≡ true
  pub sum : length (open_connections log) + (counts log).closed ≡ (counts log).opened

none_some : {X : Type 0} {x : X} → None ≡ Some x → ⊥
none_some same = false≢true (ap is_some same)

-- what an entry may close is open
closing_open : (log : List Entry) (c : ℕ) (cause : Cause) → AddsUp log → MayClose log c cause → is_open log c ≡ true
closing_open log c Dropped so_far allowed = so_far.held_open c allowed.1
closing_open log c Withdrawn so_far allowed = so_far.held_open c allowed.1
closing_open log c Cut so_far allowed = so_far.owed_open c Cut allowed
closing_open log c Forbidden so_far allowed = so_far.owed_open c Forbidden allowed
closing_open log c NotPersistent so_far allowed = so_far.owed_open c NotPersistent allowed
closing_open log c TooOld so_far allowed = (idle_open_unheld log c allowed.1).0
closing_open log c HostRoom so_far allowed = (idle_open_unheld log c allowed.1).0
closing_open log c TotalRoom so_far allowed = (idle_open_unheld log c allowed.1).0
closing_open log c CacheFull so_far allowed = (idle_open_unheld log c allowed.1).0
closing_open log c Pruned so_far allowed = (idle_open_unheld log c allowed.1).0

-- what is owed for a use is its own connection
owed_for_one : (c d : ℕ) (facts : Facts) (cause : Cause) (held : Option Want) → option_and_then (owed_for c facts) held ≡ Some (d, cause) → (c ≡ d) × (is_some held ≡ true)
owed_for_one c d facts cause None owes = absurd (none_some owes)
owed_for_one c d facts cause (Some want) owes = (ended (ends_use facts want) owes, refl)
  where
    first : Option (ℕ × Cause) → ℕ
    first None = c
    first (Some both) = both.0

    due : Option (ℕ × Cause)
    due = Some (c, ending_cause facts want)

    ended : (ends : Bool) → (if ends then due else None) ≡ Some (d, cause) → c ≡ d
    ended true same = ap first same
    ended false same = absurd (none_some same)

module _ (settings : LimitAndFirst) (moment : ℕ) (log : List Entry) (so_far : AddsUp log) where
  opened_adds_up : (c : ℕ) (want : Want) → c ≡ greatest settings.first (opened log) + 1 → AddsUp (record { moment = moment; event = Opened c want } ∷ log)
  opened_adds_up c want next =
      let after = record { moment = moment; event = Opened c want } ∷ log in
      let new : is_among c (opened log) ≡ false = new_number (is_among c (opened log)) refl in
      let lasting : is_closed log c ≡ false = not_closed (is_closed log c) refl new in
      record {
        distinct = (new, so_far.distinct);
        closed_opened = λ d closed. grind (arith, nat_tests, so_far.closed_opened d, closed);
        held_open = λ d held. grind (arith, nat_tests, is_open_is after d, is_open_is log d, so_far.held_open d, held, λ (e : c ≡ d). ap (is_closed log) e, lasting);
        owed_open = λ d cause owes. absurd (none_some owes);
        sum = rw lasting (omega (arith, so_far.sum));
      }
    where
      new_number : (among : Bool) → is_among c (opened log) ≡ among → among ≡ false
      new_number true is = absurd (omega (arith, next, le-greatest settings.first c (opened log) is))
      new_number false is = refl

      not_closed : (closed : Bool) → is_closed log c ≡ closed → is_among c (opened log) ≡ false → closed ≡ false
      not_closed true is new = absurd (false≢true (sym new ∙ so_far.closed_opened c is))
      not_closed false is new = refl

  leased_adds_up : (c : ℕ) (want : Want) → is_idle log c ≡ true → AddsUp (record { moment = moment; event = Leased c want } ∷ log)
  leased_adds_up c want idle = record {
    distinct = so_far.distinct;
    closed_opened = so_far.closed_opened;
    held_open = λ d held. grind (arith, nat_tests, so_far.held_open d, held, (idle_open_unheld log c idle).0, λ (e : c ≡ d). ap (is_open log) e);
    owed_open = λ d cause owes. absurd (none_some owes);
    sum = so_far.sum;
  }

  returned_adds_up : (c : ℕ) (facts : Facts) → is_some (holder_want log c) ≡ true → AddsUp (record { moment = moment; event = Returned c facts } ∷ log)
  returned_adds_up c facts held = record {
    distinct = so_far.distinct;
    closed_opened = so_far.closed_opened;
    held_open = λ d still. grind (arith, nat_tests, so_far.held_open d, still, holder_returned moment c facts log d);
    owed_open = λ d cause owes.
        let one = owed_for_one c d facts cause (holder_want log c) owes in
        subst (λ (n : ℕ). is_open log n ≡ true) one.0 (so_far.held_open c held);
    sum = so_far.sum;
  }

  closed_adds_up : (c : ℕ) (cause : Cause) → is_open log c ≡ true → AddsUp (record { moment = moment; event = Closed c cause } ∷ log)
  closed_adds_up c cause was_open =
      let after = record { moment = moment; event = Closed c cause } ∷ log in
      let opened_closed = opened_not_closed log c was_open in
      let fewer : length (open_connections log) ≡ length (open_connections after) + 1 =
      length-filter_flip (λ d. not (is_closed log d)) (λ d. not (is_closed after d)) c (opened log) so_far.distinct opened_closed.0 (ap not opened_closed.1) (grind (arith, nat_tests)) (λ d other. grind (arith, other)) in
      record {
        distinct = so_far.distinct;
        closed_opened = λ d closed. grind (arith, nat_tests, so_far.closed_opened d, closed, opened_closed.0, λ (e : c ≡ d). ap (λ (n : ℕ). is_among n (opened log)) e);
        held_open = λ d held. grind (arith, nat_tests, is_open_is after d, is_open_is log d, so_far.held_open d, held, holder_closed moment c cause log d);
        owed_open = λ d other owes. absurd (none_some owes);
        sum = omega (arith, so_far.sum, fewer);
      }

  -- an entry that neither starts nor ends a use
  waited_adds_up : (want : Want) → AddsUp (record { moment = moment; event = Waited want } ∷ log)
  waited_adds_up want = record { distinct = so_far.distinct; closed_opened = so_far.closed_opened; held_open = so_far.held_open; owed_open = λ d cause owes. absurd (none_some owes); sum = so_far.sum }

  left_adds_up : (transfer : ℕ) → AddsUp (record { moment = moment; event = Left transfer } ∷ log)
  left_adds_up transfer = record { distinct = so_far.distinct; closed_opened = so_far.closed_opened; held_open = so_far.held_open; owed_open = λ d cause owes. absurd (none_some owes); sum = so_far.sum }

  limit_adds_up : (most : ℕ) → AddsUp (record { moment = moment; event = Limit most } ∷ log)
  limit_adds_up most = record { distinct = so_far.distinct; closed_opened = so_far.closed_opened; held_open = so_far.held_open; owed_open = λ d cause owes. absurd (none_some owes); sum = so_far.sum }

  entry_adds_up : (event : Event) → Allows settings log moment event → AddsUp (record { moment = moment; event = event } ∷ log)
  entry_adds_up (Opened c want) allowed = opened_adds_up c want allowed.1.next
  entry_adds_up (Leased c want) allowed = leased_adds_up c want (and_left (is_idle log c) (suits log want moment c) allowed.1.fit)
  entry_adds_up (Returned c facts) allowed = returned_adds_up c facts allowed.1
  entry_adds_up (Closed c cause) allowed = closed_adds_up c cause (closing_open log c cause so_far allowed)
  entry_adds_up (Waited want) allowed = waited_adds_up want
  entry_adds_up (Left transfer) allowed = left_adds_up transfer
  entry_adds_up (Limit most) allowed = limit_adds_up most

pub adds_up : (settings : LimitAndFirst) (log : List Entry) → IsLegal settings log → AddsUp log
adds_up settings [] legal = record {
  distinct = tt;
  closed_opened = λ c closed. absurd (false≢true closed);
  held_open = λ c held. absurd (false≢true held);
  owed_open = λ c cause owes. absurd (none_some owes);
  sum = refl;
}
adds_up settings (e ∷ before) legal = entry_adds_up settings e.moment before (adds_up settings before legal.2) e.event legal.1

pub counts_add_up : OpenAndClosedAreOpened
counts_add_up settings log legal = (adds_up settings log legal).sum

pub legal_distinct : (settings : LimitAndFirst) (log : List Entry) → IsLegal settings log → AreDistinct (opened log)
legal_distinct settings log legal = (adds_up settings log legal).distinct
