use Rattle.std.proofs.Common.{◌≡◌, ◌+◌, ◌≤◌, vec_len, vec_capacity}
use Rattle.std.specs.Vec.Iter.{into_iter_len}
use Rattle.shared_cache.proofs.gathering.lock_again.Given as goal

abbrev pub invariant-loop-host : goal.invariant-loop-host
invariant-loop-host g l =
    (goal.iterator-loop-host g).can_next l.host-iterator × (goal.iterator-loop-host g).is_finite l.host-iterator
    × (vec_len l.locks + into_iter_len l.host-iterator ≡ vec_len l.fn.hosts)
    × (vec_len l.fn.hosts ≤ vec_capacity l.locks)
