use Rattle.std.proofs.Common.{◌≤◌}
use Rattle.cache_tests.proofs.drawn.counts.Given as goal

abbrev pub invariant-loop-place : goal.invariant-loop-place
invariant-loop-place l = (l.opened ≤ l.place) × (l.started ≤ l.place) × (l.closed ≤ l.place)
