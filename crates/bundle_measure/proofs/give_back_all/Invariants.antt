use Rattle.std.proofs.Common.{length, All}
use Rattle.bundle.specs.Lease.{IsMadeAt}
use Rattle.bundle_measure.proofs.give_back_all.Given as goal

abbrev pub invariant-loop-lease : goal.invariant-loop-lease
invariant-loop-lease l = All (IsMadeAt l.host.tables) l.leases.items

abbrev pub decreases-loop-lease : goal.decreases-loop-lease
decreases-loop-lease l = length l.leases.items
