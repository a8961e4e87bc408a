use Rattle.std.proofs.Common.{length}
use Rattle.threads_tests.proofs.caches.gathering.Passes.discard.Given as goal

abbrev pub decreases-loop-pass : goal.decreases-loop-pass
decreases-loop-pass g l = length l.list.items
