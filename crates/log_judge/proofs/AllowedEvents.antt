-- Where no rule is broken a log allows the event, and where it allows the event no rule is broken.
use Rattle.std.proofs.Common.{◌≡◌, ℕ, ◌+◌, ◌-◌, ◌<◌, ◌≤◌, Bool, true, false, not, nat_lt, nat_le, ◌&&◌, ◌||◌, List, [], ◌∷◌, length, Option, Some, None, is_some, is_none, refl, sym, ap, inl, inr, ◌∙◌, arith}
use Rattle.std.specs.Prelude.{◌==◌, if◌then◌else◌, slice_get}
use Rattle.std.specs.Option.{option_or, option_map}
use Rattle.std.specs.Bool.{beq}
use mathlib.Core.Bool.{false≢true}
use Rattle.std.proofs.lemmas.Bool.Decides.{nat_tests}
use Rattle.conn_log.specs.declared.base.OpenConnection.{OpenConnection}
use Rattle.conn_log.specs.declared.entry.Want.{Want}
use Rattle.conn_log.specs.declared.entry.Cause.{Cause}
use Rattle.conn_log.specs.declared.entry.Cause.TheVariants.{NotPersistent, Cut, Forbidden, TooOld, HostRoom, TotalRoom, CacheFull, Dropped, Withdrawn, Pruned}
use Rattle.conn_log.specs.declared.entry.Event.{Event}
use Rattle.conn_log.specs.declared.entry.Event.TheVariants.{Opened, Leased, Returned, Closed, Waited, Left, Limit}
use Rattle.conn_log.specs.declared.entry.Entry.{Entry}
use Rattle.conn_log.specs.Connections.{last_moment, opened, greatest, open_connections, is_open, holdings, holder_want, held_number, holds, idle_connections, is_idle, lane, born, since, came_back_persistent}
use Rattle.conn_log.specs.Waiting.{waiting, waits}
use Rattle.conn_log.specs.Fit.{is_fit}
use Rattle.conn_log.specs.Legal.{LimitAndFirst, limit_in_force, owed, MayStartAmong, MayClose, Allows, IsLegal}
use Rattle.conn_log.specs.Sound.{IsSound}
use Rattle.conn_log.specs.Laws.{known_of}
use Rattle.conn_log.proofs.Sorted.{told}
use Rattle.conn_log.proofs.Holdings.{among_has_number}
use Rattle.conn_log.proofs.Steps.{is_idle_is, idle_open_unheld}
use Rattle.conn_log.proofs.CountSums.{AddsUp, adds_up}
use Rattle.log_judge.specs.declared.violation.Violation.{Violation}
use Rattle.log_judge.specs.declared.violation.Violation.TheVariants.{InUse, NotNext, Full, CloseOwed, WaitsAlready, BesideIdle}
use Rattle.log_judge.specs.Rules.{unless, first_of, is_same_want, known_at, earlier, holds_one, starts, in_use, not_held, other_lane, wants_new, idle_too_long, open_too_long, of_leased, of_returned, of_cause, of_closed, of_waited, of_start, of_event, of_debt, first_broken}

none_some : {X : Type 0} {x : X} → Some x ≡ None → ⊥
none_some same = false≢true (sym (ap is_some same))

none_if : {X : Type 0} (x : Option X) → is_some x ≡ false → x ≡ None
none_if None none = refl
none_if (Some x) none = absurd (false≢true (sym none))

-- neither of two rules is broken
pub or_none : (rule other : Option Violation) → option_or rule other ≡ None → (rule ≡ None) × (other ≡ None)
or_none None other none = (refl, none)
or_none (Some v) other none = absurd (none_some none)

kept : (b : Bool) (v : Violation) → unless b v ≡ None → b ≡ true
kept true v none = refl
kept false v none = absurd (none_some none)

unbroken : (b : Bool) (v : Violation) → b ≡ true → unless b v ≡ None
unbroken b v is = ap (λ (t : Bool). if t then None else Some v) is

-- a want is the same as itself, and as no other
same_parts : (x y : Want) → x.transfer ≡ y.transfer → x.max_age ≡ y.max_age → x.max_life ≡ y.max_life → x.lane ≡ y.lane → x.fresh ≡ y.fresh → x.forbid_reuse ≡ y.forbid_reuse → x ≡ y
same_parts x y transfer age life lane fresh forbid i = record { transfer = transfer i; max_age = age i; max_life = life i; lane = lane i; fresh = fresh i; forbid_reuse = forbid i }

and_parts : (a b : Bool) → (a && b) ≡ true → (a ≡ true) × (b ≡ true)
and_parts true b both = (refl, both)
and_parts false b both = absurd (false≢true both)

beq_is : (a b : Bool) → beq a b ≡ true → a ≡ b
beq_is true true same = refl
beq_is false false same = refl
beq_is true false same = absurd (false≢true same)
beq_is false true same = absurd (false≢true same)

beq_self : (a : Bool) → beq a a ≡ true
beq_self true = refl
beq_self false = refl

number_is : (a b : ℕ) → (a == b) ≡ true → a ≡ b
number_is a b same = grind (arith, nat_tests, same)

all_parts : (a b d e f g : Bool) → (a && b && d && e && f && g) ≡ true → (a ≡ true) × (b ≡ true) × (d ≡ true) × (e ≡ true) × (f ≡ true) × (g ≡ true)
all_parts a b d e f g all = (grind (arith, all), grind (arith, all), grind (arith, all), grind (arith, all), grind (arith, all), grind (arith, all))

same_want : (x y : Want) → is_same_want x y ≡ true → x ≡ y
same_want x y same =
    let parts = all_parts (x.transfer == y.transfer) (x.max_age == y.max_age) (x.max_life == y.max_life) (x.lane == y.lane) (beq x.fresh y.fresh) (beq x.forbid_reuse y.forbid_reuse) same in
    same_parts x y (number_is x.transfer y.transfer parts.0) (number_is x.max_age y.max_age parts.1) (number_is x.max_life y.max_life parts.2) (number_is x.lane y.lane parts.3) (beq_is x.fresh y.fresh parts.4) (beq_is x.forbid_reuse y.forbid_reuse parts.5)

self_same : (n : ℕ) → (n == n) ≡ true
self_same n = grind (arith, nat_tests)

same_self : (x : Want) → is_same_want x x ≡ true
same_self x = all_true _ _ _ _ _ _ (self_same x.transfer) (self_same x.max_age) (self_same x.max_life) (self_same x.lane) (beq_self x.fresh) (beq_self x.forbid_reuse)
  where
    all_true : (a b d e f g : Bool) → a ≡ true → b ≡ true → d ≡ true → e ≡ true → f ≡ true → g ≡ true → (a && b && d && e && f && g) ≡ true
    all_true a b d e f g ea eb ed ee ef eg = grind (arith, ea, eb, ed, ee, ef, eg)

-- a start
holds_none : (held : Option ℕ) → holds_one held ≡ None → held ≡ None
holds_none None none = refl
holds_none (Some c) none = absurd (none_some none)

may_start : (wants : List Want) (held : Option ℕ) (holding : Bool) (want : Want) → holding ≡ is_some held → starts (slice_get wants 0) held want ≡ None → MayStartAmong wants holding want
may_start [] held holding want is none = is ∙ ap is_some (holds_none held none)
may_start (head ∷ others) held holding want is none = same_want want head (kept (is_same_want want head) _ none)

start_kept : (wants : List Want) (held : Option ℕ) (holding : Bool) (want : Want) → holding ≡ is_some held → MayStartAmong wants holding want → starts (slice_get wants 0) held want ≡ None
start_kept [] held holding want is free = ap holds_one (none_if held (sym is ∙ free))
start_kept (head ∷ others) held holding want is first = unbroken (is_same_want want head) _ (ap (λ (w : Want). is_same_want w head) first ∙ same_self head)

-- what the rules of a lease ask of a connection
module _ (log : List Entry) (c : ℕ) where
  known_open : is_open log c ≡ true → known_at log c ≡ Some (known_of log c)
  known_open there = ap (λ (b : Bool). if b then Some (known_of log c) else None) there

  known_closed : is_open log c ≡ false → known_at log c ≡ None
  known_closed out = ap (λ (b : Bool). if b then Some (known_of log c) else None) out

  nobodys : (o : Option Want) → option_map (λ (want : Want). InUse want.transfer) o ≡ None → is_none o ≡ true
  nobodys None none = refl
  nobodys (Some want) none = absurd (none_some none)

  idle_of : is_open log c ≡ true → in_use (known_of log c) ≡ None → is_idle log c ≡ true
  idle_of there none = is_idle_is log c ∙ grind (arith, there, nobodys (holder_want log c) none)

  held_of : not_held (known_of log c) ≡ None → is_some (holder_want log c) ≡ true
  held_of none = kept (is_some (holder_want log c)) _ none

  -- the parts of a fit
  fit_parts : (idle lanes fresh : Bool) (age life : ℕ) (max_age max_life : ℕ) (persists : Bool) → idle ≡ true → lanes ≡ true → not fresh ≡ true → nat_le age max_age ≡ true → ((max_life == 0) || nat_le life max_life) ≡ true → persists ≡ true → (idle && ((lanes) && not fresh && not (nat_lt max_age age || (not (max_life == 0) && nat_lt max_life life)) && persists)) ≡ true
  fit_parts idle lanes fresh age life max_age max_life persists e1 e2 e3 e4 e5 e6 = grind (arith, nat_tests, e1, e2, e3, e4, e5, e6)

  -- and of one that is fit
  record FitParts (idle lanes fresh : Bool) (age life max_age max_life : ℕ) : Type 0 where
    idle_is : idle ≡ true
    lanes_is : lanes ≡ true
    fresh_is : not fresh ≡ true
    age_is : nat_le age max_age ≡ true
    life_is : ((max_life == 0) || nat_le life max_life) ≡ true

  parts_of : (idle lanes fresh : Bool) (age life : ℕ) (max_age max_life : ℕ) (persists : Bool) → (idle && ((lanes) && not fresh && not (nat_lt max_age age || (not (max_life == 0) && nat_lt max_life life)) && persists)) ≡ true → FitParts idle lanes fresh age life max_age max_life
  parts_of idle lanes fresh age life max_age max_life persists fit = record {
    idle_is = grind (arith, nat_tests, fit);
    lanes_is = grind (arith, nat_tests, fit);
    fresh_is = grind (arith, nat_tests, fit);
    age_is = grind (arith, nat_tests, fit);
    life_is = grind (arith, nat_tests, fit);
  }

  module _ (want : Want) (moment : ℕ) (start : Option Violation) where
    -- the rules of a lease
    lease_fits : ((c' : ℕ) → is_idle log c' ≡ true → came_back_persistent log c' ≡ true) → of_leased (known_at log c) want moment start ≡ None → (is_fit log want moment c ≡ true) × (start ≡ None)
    lease_fits idle_persists none = elim (told (is_open log c)) [
      | inl there ↦
          let known = known_of log c in
          let r1 = or_none (in_use known) _ (sym (ap (λ (o : Option OpenConnection). of_leased o want moment start) (known_open there)) ∙ none) in
          let r2 = or_none (other_lane known want) _ r1.1 in
          let r3 = or_none (wants_new want) _ r2.1 in
          let r4 = or_none (idle_too_long known want moment) _ r3.1 in
          let r5 = or_none (open_too_long known want moment) _ r4.1 in
          let r6 = or_none start None r5.1 in
          let idle = idle_of there r1.0 in
          (fit_parts (is_idle log c) (lane log c == want.lane) want.fresh (moment - since log c) (moment - born log c) want.max_age want.max_life (came_back_persistent log c) idle (kept _ _ r2.0) (kept _ _ r3.0) (kept _ _ r4.0) (kept _ _ r5.0) (idle_persists c idle), r6.0)
      | inr out ↦ absurd (none_some (sym (ap (λ (o : Option OpenConnection). of_leased o want moment start) (known_closed out)) ∙ none))
    ]

    lease_kept : is_fit log want moment c ≡ true → start ≡ None → of_leased (known_at log c) want moment start ≡ None
    lease_kept fit none =
        let parts = parts_of (is_idle log c) (lane log c == want.lane) want.fresh (moment - since log c) (moment - born log c) want.max_age want.max_life (came_back_persistent log c) fit in
        let open_unheld = idle_open_unheld log c parts.idle_is in
        let known = known_of log c in
        let nobody : in_use known ≡ None = ap (option_map (λ (w : Want). InUse w.transfer)) (none_of (holder_want log c) open_unheld.1) in
        ap (λ (o : Option OpenConnection). of_leased o want moment start) (known_open open_unheld.0)
        ∙ all_none (in_use known) (other_lane known want) (wants_new want) (idle_too_long known want moment) (open_too_long known want moment) start nobody (unbroken _ _ parts.lanes_is) (unbroken _ _ parts.fresh_is) (unbroken _ _ parts.age_is) (unbroken _ _ parts.life_is) none
      where
        none_of : (o : Option Want) → is_none o ≡ true → o ≡ None
        none_of None e = refl
        none_of (Some w) e = absurd (false≢true e)

        all_none : (a b d e g h : Option Violation) → a ≡ None → b ≡ None → d ≡ None → e ≡ None → g ≡ None → h ≡ None → first_of (a ∷ b ∷ d ∷ e ∷ g ∷ h ∷ []) ≡ None
        all_none a b d e g h ea eb ed ee eg eh = rw (ea, eb, ed, ee, eg) (ap (λ (r : Option Violation). option_or r None) eh)

  -- the rules of a return
  return_held : of_returned (known_at log c) ≡ None → is_some (holder_want log c) ≡ true
  return_held none = elim (told (is_open log c)) [
    | inl there ↦ held_of (sym (ap of_returned (known_open there)) ∙ none)
    | inr out ↦ absurd (none_some (sym (ap of_returned (known_closed out)) ∙ none))
  ]

  return_kept : is_open log c ≡ true → is_some (holder_want log c) ≡ true → of_returned (known_at log c) ≡ None
  return_kept there is_held = ap of_returned (known_open there) ∙ unbroken _ _ is_held

  -- the rules of a close where none is owed
  cause_allows : (cause : Cause) → owed log ≡ None → is_open log c ≡ true → of_cause cause (known_of log c) ≡ None → MayClose log c cause
  cause_allows Dropped settled there none = (settled, held_of none)
  cause_allows Withdrawn settled there none = (settled, held_of none)
  cause_allows Cut settled there none = absurd (none_some none)
  cause_allows Forbidden settled there none = absurd (none_some none)
  cause_allows NotPersistent settled there none = absurd (none_some none)
  cause_allows TooOld settled there none = (settled, idle_of there none)
  cause_allows HostRoom settled there none = (settled, idle_of there none)
  cause_allows TotalRoom settled there none = (settled, idle_of there none)
  cause_allows CacheFull settled there none = (settled, idle_of there none)
  cause_allows Pruned settled there none = (settled, idle_of there none)

  close_allows : (cause : Cause) → owed log ≡ None → of_closed (known_at log c) cause ≡ None → MayClose log c cause
  close_allows cause settled none = elim (told (is_open log c)) [
    | inl there ↦ cause_allows cause settled there (sym (ap (λ (o : Option OpenConnection). of_closed o cause) (known_open there)) ∙ none)
    | inr out ↦ absurd (none_some (sym (ap (λ (o : Option OpenConnection). of_closed o cause) (known_closed out)) ∙ none))
  ]

module _ (settings : LimitAndFirst) (log : List Entry) where
  holding_is : (want : Want) → holds log want.transfer ≡ is_some (held_number log want.transfer)
  holding_is want = among_has_number want.transfer (holdings log)

  waited_parts : (held : Option ℕ) (is_waiting : Bool) (count : ℕ) → of_waited held is_waiting count ≡ None → (held ≡ None) × (is_waiting ≡ false) × (count ≡ 0)
  waited_parts held is_waiting count none =
      let r1 = or_none (holds_one held) _ none in
      let r2 = or_none (unless (not is_waiting) WaitsAlready) _ r1.1 in
      let r3 = or_none (unless (count == 0) (BesideIdle count)) None r2.1 in
      (holds_none held r1.0, off is_waiting (kept _ _ r2.0), number_is count 0 (kept _ _ r3.0))
    where
      off : (b : Bool) → not b ≡ true → b ≡ false
      off false is = refl
      off true is = absurd (false≢true is)

  empty : {X : Type 0} (xs : List X) → length xs ≡ 0 → xs ≡ []
  empty [] none = refl
  empty (x ∷ xs) none = absurd (omega (arith, none))

  -- a sound log allows an event that breaks no rule
  pub allows : IsSound settings log → (moment : ℕ) (event : Event) → of_event settings log moment event ≡ None → Allows settings log moment event
  allows sound moment (Opened c want) none =
      let count = length (open_connections log) in
      let r1 = or_none (unless (c == greatest settings.first (opened log) + 1) (NotNext (greatest settings.first (opened log) + 1))) _ none in
      let r2 = or_none (unless (nat_lt count (limit_in_force settings log)) (Full count (limit_in_force settings log))) _ r1.1 in
      let r3 = or_none (of_start settings log want) None r2.1 in (
        sound.settled,
        record {
          next = number_is c (greatest settings.first (opened log) + 1) (kept _ _ r1.0);
          room = below count (limit_in_force settings log) (kept _ _ r2.0);
          start = may_start (waiting log) (held_number log want.transfer) (holds log want.transfer) want (holding_is want) r3.0;
        },
      )
    where
      below : (a b : ℕ) → nat_lt a b ≡ true → a < b
      below a b is = grind (arith, nat_tests, is)
  allows sound moment (Leased c want) none =
      let fits = lease_fits log c want moment (of_start settings log want) sound.orderly.idle_persists none in
      (sound.settled, record { fit = fits.0; start = may_start (waiting log) (held_number log want.transfer) (holds log want.transfer) want (holding_is want) fits.1 })
  allows sound moment (Returned c facts) none = (sound.settled, return_held log c none)
  allows sound moment (Closed c cause) none = close_allows log c cause sound.settled none
  allows sound moment (Waited want) none =
      let parts = waited_parts (held_number log want.transfer) (waits log want.transfer) (length (idle_connections log)) none in
      (sound.settled, record { holds_nothing = holding_is want ∙ ap is_some parts.0; waits_not = parts.1; none_idle = empty (idle_connections log) parts.2 })
  allows sound moment (Left transfer) none = (sound.settled, kept _ _ none)
  allows sound moment (Limit n) none = (sound.settled, within (length (open_connections log)) n (kept _ _ none))
    where
      within : (a b : ℕ) → nat_le a b ≡ true → a ≤ b
      within a b is = grind (arith, nat_tests, is)

module _ (settings : LimitAndFirst) (log : List Entry) (sums : AddsUp log) where
  -- where a log allows an event, the event breaks no rule: first where no close is owed
  held_kept : (c : ℕ) → is_some (holder_want log c) ≡ true → of_returned (known_at log c) ≡ None
  held_kept c is_held = return_kept log c (sums.held_open c is_held) is_held

  idle_kept : (c : ℕ) (cause : Cause) → is_idle log c ≡ true → ((known : OpenConnection) → of_cause cause known ≡ in_use known) → of_closed (known_at log c) cause ≡ None
  idle_kept c cause idle is =
      let open_unheld = idle_open_unheld log c idle in
      ap (λ (o : Option OpenConnection). of_closed o cause) (known_open log c open_unheld.0) ∙ is (known_of log c) ∙ ap (option_map (λ (w : Want). InUse w.transfer)) (none_of (holder_want log c) open_unheld.1)
    where
      none_of : (o : Option Want) → is_none o ≡ true → o ≡ None
      none_of None e = refl
      none_of (Some w) e = absurd (false≢true e)

  -- any event but a close
  event_kept : (moment : ℕ) (event : Event) → owed log ≡ None → of_event settings log moment event ≡ None → of_debt settings log (owed log) moment event ≡ None
  event_kept moment event settled none = ap (λ (due : Option (ℕ × Cause)). of_debt settings log due moment event) settled ∙ none

  close_kept : (moment c : ℕ) (cause : Cause) → MayClose log c cause → of_debt settings log (owed log) moment (Closed c cause) ≡ None
  close_kept moment c Dropped may = event_kept moment (Closed c Dropped) may.0 (ap (λ (o : Option OpenConnection). of_closed o Dropped) (known_open log c (sums.held_open c may.1)) ∙ unbroken _ _ may.1)
  close_kept moment c Withdrawn may = event_kept moment (Closed c Withdrawn) may.0 (ap (λ (o : Option OpenConnection). of_closed o Withdrawn) (known_open log c (sums.held_open c may.1)) ∙ unbroken _ _ may.1)
  close_kept moment c Cut owes = ap (λ (due : Option (ℕ × Cause)). of_debt settings log due moment (Closed c Cut)) owes ∙ unbroken _ (CloseOwed c Cut) (self_same_and c)
    where
      self_same_and : (n : ℕ) → ((n == n) && true) ≡ true
      self_same_and n = grind (arith, nat_tests)
  close_kept moment c Forbidden owes = ap (λ (due : Option (ℕ × Cause)). of_debt settings log due moment (Closed c Forbidden)) owes ∙ unbroken _ (CloseOwed c Forbidden) (self_same_and c)
    where
      self_same_and : (n : ℕ) → ((n == n) && true) ≡ true
      self_same_and n = grind (arith, nat_tests)
  close_kept moment c NotPersistent owes = ap (λ (due : Option (ℕ × Cause)). of_debt settings log due moment (Closed c NotPersistent)) owes ∙ unbroken _ (CloseOwed c NotPersistent) (self_same_and c)
    where
      self_same_and : (n : ℕ) → ((n == n) && true) ≡ true
      self_same_and n = grind (arith, nat_tests)
  close_kept moment c TooOld may = event_kept moment (Closed c TooOld) may.0 (idle_kept c TooOld may.1 (λ known. refl))
  close_kept moment c HostRoom may = event_kept moment (Closed c HostRoom) may.0 (idle_kept c HostRoom may.1 (λ known. refl))
  close_kept moment c TotalRoom may = event_kept moment (Closed c TotalRoom) may.0 (idle_kept c TotalRoom may.1 (λ known. refl))
  close_kept moment c CacheFull may = event_kept moment (Closed c CacheFull) may.0 (idle_kept c CacheFull may.1 (λ known. refl))
  close_kept moment c Pruned may = event_kept moment (Closed c Pruned) may.0 (idle_kept c Pruned may.1 (λ known. refl))

  pub keeps : (moment : ℕ) (event : Event) → Allows settings log moment event → of_debt settings log (owed log) moment event ≡ None
  keeps moment (Opened c want) may =
      let next : (c == greatest settings.first (opened log) + 1) ≡ true = same c (greatest settings.first (opened log) + 1) may.1.next in
      let room : nat_lt (length (open_connections log)) (limit_in_force settings log) ≡ true = below (length (open_connections log)) (limit_in_force settings log) may.1.room in
      let start = start_kept (waiting log) (held_number log want.transfer) (holds log want.transfer) want (holding_is settings log want) may.1.start in
      event_kept moment (Opened c want) may.0 (three (unless (c == greatest settings.first (opened log) + 1) (NotNext (greatest settings.first (opened log) + 1))) (unless (nat_lt (length (open_connections log)) (limit_in_force settings log)) (Full (length (open_connections log)) (limit_in_force settings log))) (of_start settings log want) (unbroken _ _ next) (unbroken _ _ room) start)
    where
      same : (a b : ℕ) → a ≡ b → (a == b) ≡ true
      same a b is = grind (arith, nat_tests, is)

      below : (a b : ℕ) → a < b → nat_lt a b ≡ true
      below a b is = grind (arith, nat_tests, is)

      three : (a b d : Option Violation) → a ≡ None → b ≡ None → d ≡ None → first_of (a ∷ b ∷ d ∷ []) ≡ None
      three a b d ea eb ed = rw (ea, eb) (ap (λ (r : Option Violation). option_or r None) ed)
  keeps moment (Leased c want) may =
      event_kept moment (Leased c want) may.0 (lease_kept log c want moment (of_start settings log want) may.1.fit (start_kept (waiting log) (held_number log want.transfer) (holds log want.transfer) want (holding_is settings log want) may.1.start))
  keeps moment (Returned c facts) may = event_kept moment (Returned c facts) may.0 (held_kept c may.1)
  keeps moment (Closed c cause) may = close_kept moment c cause may
  keeps moment (Waited want) may =
      let free : held_number log want.transfer ≡ None = none_if (held_number log want.transfer) (sym (holding_is settings log want) ∙ may.1.holds_nothing) in
      let none : length (idle_connections log) ≡ 0 = ap length may.1.none_idle in
      event_kept moment (Waited want) may.0 (waited_kept (held_number log want.transfer) (waits log want.transfer) (length (idle_connections log)) free may.1.waits_not none)
    where
      waited_kept : (held : Option ℕ) (is_waiting : Bool) (count : ℕ) → held ≡ None → is_waiting ≡ false → count ≡ 0 → of_waited held is_waiting count ≡ None
      waited_kept held is_waiting count free out none = rw (free, out, none) refl
  keeps moment (Left transfer) may = event_kept moment (Left transfer) may.0 (unbroken _ _ may.1)
  keeps moment (Limit n) may = event_kept moment (Limit n) may.0 (unbroken _ _ (within (length (open_connections log)) n may.1))
    where
      within : (a b : ℕ) → a ≤ b → nat_le a b ≡ true
      within a b is = grind (arith, nat_tests, is)

-- an entry that breaks a rule makes no legal log
pub legal_keeps : (settings : LimitAndFirst) (e : Entry) (log : List Entry) → IsLegal settings (e ∷ log) → first_broken settings log e ≡ None
legal_keeps settings e log legal =
    let later : nat_le (last_moment log) e.moment ≡ true = not_before (last_moment log) e.moment legal.0 in
    ap (λ (rule : Option Violation). option_or rule (of_debt settings log (owed log) e.moment e.event)) (unbroken _ _ later) ∙ keeps settings log (adds_up settings log legal.2) e.moment e.event legal.1
  where
    not_before : (a b : ℕ) → a ≤ b → nat_le a b ≡ true
    not_before a b is = grind (arith, nat_tests, is)

-- an entry that breaks none
pub unbroken_parts : (settings : LimitAndFirst) (log : List Entry) (e : Entry) → first_broken settings log e ≡ None → (last_moment log ≤ e.moment) × (of_debt settings log (owed log) e.moment e.event ≡ None)
unbroken_parts settings log e none =
    let parts = or_none (earlier (last_moment log) e.moment) _ none in
    (not_before (last_moment log) e.moment (kept _ _ parts.0), parts.1)
  where
    not_before : (a b : ℕ) → nat_le a b ≡ true → a ≤ b
    not_before a b is = grind (arith, nat_tests, is)
