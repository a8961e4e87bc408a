use Rattle.std.proofs.Common.{◌≤◌}
use Rattle.memory_tests.proofs.cost.uses_often.Given as goal

abbrev pub invariant-loop-transfer : goal.invariant-loop-transfer
invariant-loop-transfer l = l.used ≤ l.transfer
