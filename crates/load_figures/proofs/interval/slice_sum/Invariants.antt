use Rattle.std.proofs.Common.{◌≡◌, take, sum}
use Rattle.load_figures.specs.Counts.{capped}
use Rattle.load_figures.proofs.interval.slice_sum.Given as goal

abbrev pub invariant-loop-count : goal.invariant-loop-count
invariant-loop-count l = l.sum ≡ capped (sum (take l.count-index l.slices))
