use Rattle.std.proofs.Common.{◌≡◌, ◌+◌, ◌<◌, sum, take}
use Rattle.load_figures.proofs.histogram.bucket_at.Given as goal

abbrev pub invariant-loop-bucket : goal.invariant-loop-bucket
invariant-loop-bucket l = (sum (take l.bucket l.counts) + l.left ≡ l.rank) × (0 < l.left)
