use Rattle.std.proofs.Common.{◌≡◌}
use Rattle.memory_tests.proofs.hosts.want_of_memory_leaves_no_booking.Given as goal

abbrev pub invariant-loop-transfer : goal.invariant-loop-transfer
invariant-loop-transfer g l = l.lease.tables ≡ l.desk
