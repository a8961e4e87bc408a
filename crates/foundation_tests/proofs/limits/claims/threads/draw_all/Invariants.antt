use Rattle.std.proofs.Common.{◌≡◌}
use Rattle.foundation_tests.proofs.limits.claims.threads.draw_all.Given as goal

abbrev pub invariant-loop : goal.invariant-loop
invariant-loop g l = (l.seat.claim ≡ l.initial.seat.claim) × (l.seat.share ≡ l.initial.seat.share) × (l.seat.past ≡ 0) × (l.numbers.items ≡ l.seat.drawn)
