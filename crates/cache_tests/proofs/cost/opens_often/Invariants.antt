use Rattle.std.proofs.Common.{◌≤◌, ◌-◌}
use Rattle.cache_tests.proofs.cost.opens_often.Given as goal

abbrev pub invariant-loop-round : goal.invariant-loop-round
invariant-loop-round l = (l.used ≤ l.round) × (l.site ≤ l.sites - 1)
