use Rattle.std.proofs.Common.{◌≡◌, ◌+◌, ◌<◌, sum, take}
use Rattle.load_figures.proofs.interval.slice_at.Given as goal

abbrev pub invariant-loop-slice : goal.invariant-loop-slice
invariant-loop-slice l = (sum (take l.slice l.slices) + l.left ≡ l.rank) × (0 < l.left)
