use Rattle.std.proofs.Common.{length}
use Rattle.std.specs.List.{All}
use Rattle.shared_cache.specs.Passes.{IsPassOf}
use Rattle.driver.specs.ManyWork.{HavePasses}
use Rattle.threads_tests.proofs.drivers.many.taken_from.Given as goal

abbrev pub decreases-loop-last : goal.decreases-loop-last
decreases-loop-last g l = length l.workers.items

abbrev pub invariant-loop-last : goal.invariant-loop-last
invariant-loop-last g l = record {
  passes : All (IsPassOf g.N.Names.names) l.passes.items;
  left : HavePasses g.N.Names.names l.workers.items;
}
