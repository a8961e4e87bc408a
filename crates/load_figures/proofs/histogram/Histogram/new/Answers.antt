use Rattle.std.proofs.Common.{◌≡◌, ℕ, ◌-◌, List, [], ◌++◌, take, replicate, ap, ◌∙◌}
use Rattle.std.proofs.Math.Seq.{take-nil}
use Rattle.load_figures.specs.Tally.{Tally}
use Rattle.load_figures.proofs.histogram.Histogram.new.Goals as goal

-- so many zeros behind nothing
zeros : (len : ℕ) (counts old : List ℕ) → counts ≡ take 7424 old ++ replicate (7424 - len) 0 → old ≡ [] → len ≡ 0 → counts ≡ replicate 7424 0
zeros len counts old all empty none =
    all ∙ ap (λ (xs : List ℕ). take 7424 xs ++ replicate (7424 - len) 0) empty
    ∙ ap (λ (xs : List ℕ). xs ++ replicate (7424 - len) 0) (take-nil 7424)
    ∙ ap (λ (n : ℕ). replicate (7424 - n) 0) none

pub returns : goal.returns
returns c = ap {B = Tally} (λ (xs : List ℕ). record { counts = xs; total = 0; greatest = 0 }) (zeros _ c.resize.new.self.items c.new-counts.result.items c.in_ok-resize.ensures.items c.new-counts.ensures.items c.new-counts.ensures.len)
