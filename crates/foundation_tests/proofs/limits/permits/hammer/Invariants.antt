use Rattle.std.proofs.Common.{◌≡◌}
use Rattle.foundation_tests.proofs.limits.permits.hammer.Given as goal

abbrev pub invariant-loop : goal.invariant-loop
invariant-loop l = (l.seat.table ≡ l.initial.seat.table) × (l.seat.view.share ≡ l.initial.seat.view.share)
