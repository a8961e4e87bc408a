use Rattle.std.proofs.Common.{◌≡◌}
use Rattle.shared_cache.proofs.cache.SharedCache.take_back_again.Given as goal

abbrev pub invariant-loop : goal.invariant-loop
invariant-loop g l =
    (l.unspent ≡ l.fn.lease) × (l.pass ≡ l.initial.pass)
    × (goal.iterator-loop g).can_next l.iterator' × (goal.iterator-loop g).is_finite l.iterator'
