use Rattle.std.proofs.Common.{◌≡◌, ◌+◌, ◌≤◌, false, vec_len, vec_capacity}
use Rattle.std.specs.Vec.Iter.{into_iter_len}
use Rattle.shared_cache.specs.Gathering.{AreSettledFrom}
use Rattle.shared_cache.proofs.gathering.open_hosts.Given as goal

abbrev pub invariant-loop-lock : goal.invariant-loop-lock
invariant-loop-lock g l =
    (goal.iterator-loop-lock g).can_next l.lock-iterator × (goal.iterator-loop-lock g).is_finite l.lock-iterator
    × (vec_len l.hosts + into_iter_len l.lock-iterator ≡ vec_len l.fn.locks)
    × (vec_len l.fn.locks ≤ vec_capacity l.hosts)
    × (l.place ≡ vec_len l.hosts)
    × (l.busy ≡ 0 → l.missing ≡ false → AreSettledFrom g.N.Names.names l.passes 0 l.hosts.items)
