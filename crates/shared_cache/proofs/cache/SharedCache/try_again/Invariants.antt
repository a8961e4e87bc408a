use Rattle.std.proofs.Common.{◌≡◌}
use Rattle.shared_cache.proofs.cache.SharedCache.try_again.Given as goal

abbrev pub invariant-loop : goal.invariant-loop
invariant-loop g l =
    (l.halfway ≡ l.fn.booking) × (l.pass ≡ l.initial.pass)
    × (goal.iterator-loop g).can_next l.iterator' × (goal.iterator-loop g).is_finite l.iterator'
