use Rattle.std.proofs.Common.{All}
use Rattle.bundle.specs.Lease.{IsMadeAt}
use Rattle.bundle_measure.proofs.open_all.Given as goal

abbrev pub invariant-loop-transfer : goal.invariant-loop-transfer
invariant-loop-transfer l = All (IsMadeAt l.host.tables) l.leases.items
