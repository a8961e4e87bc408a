-- Why a seat with its budget keeps the laws of permits.
use Rattle.std.specs.Prelude.{◌≡◌, ℕ, ◌+◌, ◌≤◌, refl}
use Rattle.std.proofs.Common.{sym, ◌∙◌, ap, arith}
use Rattle.budget.specs.declared.permits.Try.{Try}
use Rattle.budget.specs.declared.permits.Try.TheVariants.{Got, Full, Contended}
use Rattle.budget.specs.declared.words.view.WordView.{WordView}
use Rattle.budget.specs.declared.words.view.SeatView.{SeatView}
use Rattle.budget.specs.Words.{Shared, SeatShown, Answers, IsLater, Stays, LoadsMore, Opening, Keeping}

later_from_start : (x : SeatView) → IsLater x x
later_from_start x = record {
  share = refl;
  total_loads = omega arith;
  total_misses = omega arith;
  kept_loads = omega arith;
  kept_misses = omega arith;
}

later_on : (x y z : SeatView) → IsLater x y → IsLater y z → IsLater x z
later_on x y z p q = record {
  share = q.share ∙ p.share;
  total_loads = let a = p.total_loads in let b = q.total_loads in omega arith;
  total_misses = let a = p.total_misses in let b = q.total_misses in omega arith;
  kept_loads = let a = p.kept_loads in let b = q.kept_loads in omega arith;
  kept_misses = let a = p.kept_misses in let b = q.kept_misses in omega arith;
}

-- an answer told since a later time was told since an earlier one
answers_since : (limit : ℕ) (x y z : WordView) (answer : Try) → x.loads ≤ y.loads → x.misses ≤ y.misses → Answers limit y z answer → Answers limit x z answer
answers_since limit x y z Got loads misses told = tt
answers_since limit x y z Full loads misses told = let more = told.0 in (omega arith, told.1)
answers_since limit x y z Contended loads misses told = omega arith

-- it is still the answer where the seat's view of the word stays
answers_still : (limit same : ℕ) (x y z : WordView) (answer : Try) → Answers limit x y answer → same ≡ limit → z ≡ y → Answers same x z answer
answers_still limit same x y z Got told e f = tt
answers_still limit same x y z Full told e f = let loads = ap (λ (w : WordView). w.loads) f in let more = told.0 in (omega arith, ap (λ (w : WordView). w.seen) f ∙ told.1 ∙ sym e)
answers_still limit same x y z Contended told e f = let misses = ap (λ (w : WordView). w.misses) f in omega arith

pub stays_from_start : (b : Shared) (p : SeatShown) → Stays b p b p
stays_from_start b p = record { budget = refl; table = refl; number = refl; later = later_from_start p.view }

pub stays_on : {b c d : Shared} {p q r : SeatShown} → Stays b p c q → Stays c q d r → Stays b p d r
stays_on {b} {c} {d} {p} {q} {r} s t = record {
  budget = t.budget ∙ s.budget;
  table = t.table ∙ s.table;
  number = t.number ∙ s.number;
  later = later_on p.view q.view r.view s.later t.later;
}

pub opening_since : (b c d : Shared) (p q r : SeatShown) (answer : Try) → Stays b p c q → Opening d q r answer → Opening d p r answer
opening_since b c d p q r answer s told = answers_since d.limits.total p.view.total q.view.total r.view.total answer s.later.total_loads s.later.total_misses told

pub keeping_since : (b c d : Shared) (p q r : SeatShown) (answer : Try) → Stays b p c q → Keeping d q r answer → Keeping d p r answer
keeping_since b c d p q r answer s told = answers_since d.limits.connects p.view.kept q.view.kept r.view.kept answer s.later.kept_loads s.later.kept_misses told

pub opening_still : (b c : Shared) (p q r : SeatShown) (answer : Try) → Opening b p q answer → Stays b q c r → r.view.total ≡ q.view.total → Opening c p r answer
opening_still b c p q r answer told s same = answers_still b.limits.total c.limits.total p.view.total q.view.total r.view.total answer told (ap (λ (budget : Shared). budget.limits.total) s.budget) same

pub keeping_still : (b c : Shared) (p q r : SeatShown) (answer : Try) → Keeping b p q answer → Stays b q c r → r.view.kept ≡ q.view.kept → Keeping c p r answer
keeping_still b c p q r answer told s same = answers_still b.limits.connects c.limits.connects p.view.kept q.view.kept r.view.kept answer told (ap (λ (budget : Shared). budget.limits.connects) s.budget) same

pub contended_to_open : (b c : Shared) (p q r : SeatShown) → Opening b p q Contended → Stays b q c r → Opening c p r Contended
contended_to_open b c p q r told s = let misses = s.later.total_misses in omega arith

pub contended_to_keep : (b c : Shared) (p q r : SeatShown) → Keeping b p q Contended → Stays b q c r → Keeping c p r Contended
contended_to_keep b c p q r told s = let misses = s.later.kept_misses in omega arith

pub asked_from_start : (p : SeatShown) → LoadsMore p.view p.view 0 0
asked_from_start p = record { total = omega arith; kept = omega arith }

pub asked_on : (p q r : SeatShown) (opens keeps more_opens more_keeps : ℕ) → LoadsMore p.view q.view opens keeps → LoadsMore q.view r.view more_opens more_keeps
    → LoadsMore p.view r.view (opens + more_opens) (keeps + more_keeps)
asked_on p q r opens keeps more_opens more_keeps first later = record {
  total = let a = first.total in let b = later.total in omega arith;
  kept = let a = first.kept in let b = later.kept in omega arith;
}
