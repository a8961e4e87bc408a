use Rattle.std.proofs.Common.{◌≡◌, ◌+◌, ◌≤◌, [], length, vec_len, vec_capacity}
use Rattle.std.specs.List.{All}
use Rattle.driver.proofs.many.storage.loops_for.Given as goal

abbrev pub decreases-loop-task : goal.decreases-loop-task
decreases-loop-task g l = length l.tasks.items

abbrev pub invariant-loop-task : goal.invariant-loop-task
invariant-loop-task g l = record {
  number : vec_len l.loops + vec_len l.tasks ≡ vec_len l.fn.tasks;
  count : l.count ≡ vec_len l.fn.tasks;
  room : vec_len l.fn.tasks ≤ vec_capacity l.loops;
  empty : All (λ it. it.slab.slots ≡ []) l.loops.items;
}
