use Rattle.std.proofs.Common.{length}
use Rattle.threads_tests.proofs.drivers.many.tools_of.Given as goal

abbrev pub decreases-loop-dial : goal.decreases-loop-dial
decreases-loop-dial g l = length l.dials.items
