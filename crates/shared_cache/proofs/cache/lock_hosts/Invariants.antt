use Rattle.std.proofs.Common.{◌≡◌, ◌+◌, ◌≤◌, vec_len, vec_capacity}
use Rattle.std.specs.List.{All}
use Rattle.std.specs.Vec.Iter.{into_iter_len, into_iter_items}
use Rattle.shared_cache.specs.Locked.{IsHostUnder}
use Rattle.shared_cache.proofs.cache.lock_hosts.Given as goal

abbrev pub invariant-loop-planned : goal.invariant-loop-planned
invariant-loop-planned g l =
    (goal.iterator-loop-planned g).can_next l.planned-iterator × (goal.iterator-loop-planned g).is_finite l.planned-iterator
    × (vec_len l.locked + into_iter_len l.planned-iterator ≡ vec_len l.fn.hosts)
    × (vec_len l.fn.hosts ≤ vec_capacity l.locked)
    × All (IsHostUnder g.N.Names.names) (into_iter_items l.planned-iterator)
