use Rattle.std.proofs.Common.{length}
use Rattle.shared_cache.specs.Passes.{IsPassOf}
use Rattle.tries.proofs.scripts.site_leases.abandon_all.Given as goal

abbrev pub invariant-loop-own : goal.invariant-loop-own
invariant-loop-own g l = IsPassOf g.N.Names.names l.pass

abbrev pub decreases-loop-own : goal.decreases-loop-own
decreases-loop-own g l = length l.leases.items
