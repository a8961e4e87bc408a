use Rattle.std.proofs.Common.{◌≡◌}
use Rattle.foundation_tests.proofs.limits.threads.spend_many.Given as goal

abbrev pub invariant-loop : goal.invariant-loop
invariant-loop g l = l.pass.table ≡ g.B.Room.table
