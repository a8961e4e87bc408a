use Rattle.std.proofs.Common.{◌+◌, ◌≤◌, vec_len, vec_capacity}
use Rattle.std.specs.List.{All}
use Rattle.std.specs.Vec.Iter.{into_iter_len}
use Rattle.shared_cache.specs.Passes.{IsPassOf}
use Rattle.tries.proofs.soaking.crew.passes_of.Given as goal

abbrev pub invariant-loop-worker : goal.invariant-loop-worker
invariant-loop-worker g l =
    (goal.iterator-loop-worker g).can_next l.worker-iterator × (goal.iterator-loop-worker g).is_finite l.worker-iterator
    × (vec_len l.passes + into_iter_len l.worker-iterator ≤ vec_len l.fn.workers)
    × (vec_len l.fn.workers ≤ vec_capacity l.passes)
    × All (IsPassOf g.N.Names.names) l.passes.items
