use Rattle.std.proofs.Common.{◌≡◌, ◌⊎◌, inl, inr, ℕ, ◌<◌, ◌≤◌, IfNone, Option, subst, sym, arith, rules}
use Rattle.std.proofs.Math.Nat.{mul-le-mul_left}
use Rattle.load_figures.specs.Percentiles.{rank_of}
use Rattle.load_figures.specs.Tally.{values_in}
use Rattle.load_figures.proofs.histogram.Histogram.value_at.Goals as goal

-- as many values there are, unless there is none
rank_there : (values thousandths : ℕ) → thousandths ≤ 1000 → 0 < values → rank_of values thousandths ≤ values
rank_there values thousandths few some = omega (arith, mul-le-mul_left values few)

some_or_none : (values : ℕ) → (0 < values) ⊎ (values ≤ 0)
some_or_none values = search arith

none_at : (values thousandths : ℕ) → thousandths ≤ 1000 → values < rank_of values thousandths → values ≡ 0
none_at values thousandths few past = elim (some_or_none values) [
  | inl some ↦ absurd (omega (arith, past, rank_there values thousandths few some))
  | inr none ↦ omega (arith, none)
]

pub returns-in_err-bucket-clause-none : goal.returns-in_err-bucket-clause-none
returns-in_err-bucket-clause-none c =
    let past : values_in c.args.self.now < rank_of (values_in c.args.self.now) c.args.thousandths = search rules in
    subst (λ (r : Option ℕ). IfNone r (values_in c.args.self.now ≡ 0)) (sym c.from_residual.ensures) (none_at (values_in c.args.self.now) c.args.thousandths c.requires past)
