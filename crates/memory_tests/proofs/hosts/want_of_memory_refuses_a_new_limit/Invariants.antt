use Rattle.std.proofs.Common.{◌≡◌}
use Rattle.memory_tests.proofs.hosts.want_of_memory_refuses_a_new_limit.Given as goal

abbrev pub invariant-loop-limit : goal.invariant-loop-limit
invariant-loop-limit g l = l.second.tables ≡ l.desk
