use Rattle.std.proofs.Common.{length}
use Rattle.threads_tests.proofs.caches.sharing.close_all.Given as goal

abbrev pub decreases-loop-worker : goal.decreases-loop-worker
decreases-loop-worker g l = length l.workers.items
