-- Intervals at their places.
use Rattle.std.proofs.Common.{◌≡◌, ℕ, zero, suc, ◌+◌, ◌*◌, ◌<◌, ◌≤◌, List, [], ◌∷◌, length, replicate, get_or, refl, ap, ◌∙◌, arith}
use Rattle.load_figures.specs.Counts.{capped, each_with}
use Rattle.load_figures.specs.Intervals.{IntervalCounts, IntervalLine, both, capped_slices, folded, interval_at, listed, no_interval, IsFold}

abbrev pub line_of : ℕ → List IntervalCounts → IntervalLine
line_of length_us items = record { length_us = length_us; items = items }

-- places without a job
pub at-replicate : (n place : ℕ) → interval_at (replicate n no_interval) place ≡ no_interval
at-replicate zero place = refl
at-replicate (suc n) zero = refl
at-replicate (suc n) (suc place) = at-replicate n place

pub at-past : (intervals : List IntervalCounts) (place : ℕ) → length intervals ≤ place → interval_at intervals place ≡ no_interval
at-past [] place past = refl
at-past (first ∷ intervals) zero past = absurd (omega arith)
at-past (first ∷ intervals) (suc place) past = at-past intervals place (omega arith)

pub each_with-zeros : (n : ℕ) → each_with capped_slices (replicate n 0) (replicate n 0) ≡ replicate n 0
each_with-zeros zero = refl
each_with-zeros (suc n) = ap (λ rest. 0 ∷ rest) (each_with-zeros n)

pub both-none : both no_interval no_interval ≡ no_interval
both-none = ap (λ slices. record { requests = 0; failed = 0; greatest = 0; slices = slices }) (each_with-zeros 832)

-- within the list any default will do
pub at-default : (intervals : List IntervalCounts) (place : ℕ) (none : IntervalCounts) → place < length intervals → get_or intervals place none ≡ interval_at intervals place
at-default [] place none there = absurd (omega arith)
at-default (first ∷ intervals) zero none there = refl
at-default (first ∷ intervals) (suc place) none there = at-default intervals place none (omega arith)

-- a list is what it has at each place
pub listed-places : (count : ℕ) (intervals : List IntervalCounts) (at : ℕ → IntervalCounts) → length intervals ≡ count → ((place : ℕ) → interval_at intervals place ≡ at place)
    → intervals ≡ listed count at
listed-places zero [] at size each = refl
listed-places zero (first ∷ intervals) at size each = absurd (omega arith)
listed-places (suc count) [] at size each = absurd (omega arith)
listed-places (suc count) (first ∷ intervals) at size each =
    ap (λ (first : IntervalCounts). first ∷ intervals) (each 0)
    ∙ ap (λ (rest : List IntervalCounts). at 0 ∷ rest) (listed-places count intervals (λ place. at (suc place)) (omega arith) (λ place. each (suc place)))

-- the line after a folding
pub folded_line : (length_us : ℕ) (items : List IntervalCounts) (line : IntervalLine) → length line.items ≡ 600 → length_us ≡ capped (line.length_us * 2) → IsFold line.items items
    → record { length_us = length_us; items = items } ≡ folded line
folded_line length_us items line size length_is fold =
    ap (λ (n : ℕ). line_of n items) length_is
    ∙ ap (λ (xs : List IntervalCounts). line_of (capped (line.length_us * 2)) xs)
    (listed-places 600 items (λ place. both (interval_at line.items (2 * place)) (interval_at line.items (2 * place + 1))) (fold.as_many ∙ size) fold.each)
