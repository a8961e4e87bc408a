use Rattle.std.proofs.Common.{length}
use Rattle.tries.proofs.many.tally_of.Given as goal

abbrev pub decreases-loop-last : goal.decreases-loop-last
decreases-loop-last l = length l.workers.items
