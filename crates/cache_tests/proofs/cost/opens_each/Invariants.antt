use Rattle.std.proofs.Common.{◌≤◌}
use Rattle.cache_tests.proofs.cost.opens_each.Given as goal

abbrev pub invariant-loop-site : goal.invariant-loop-site
invariant-loop-site l = l.used ≤ l.site
