use Rattle.std.proofs.Common.{◌≡◌, ◌≤◌}
use Rattle.bundle_tests.proofs.at_once.what_came_back_last_is_leased_at_once.Given as goal

abbrev pub invariant-loop-transfer : goal.invariant-loop-transfer
invariant-loop-transfer g l = (l.state.booked ≡ 0) × (l.leased ≤ l.transfer)
