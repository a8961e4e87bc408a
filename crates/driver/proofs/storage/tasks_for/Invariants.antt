use Rattle.std.proofs.Common.{◌≡◌, ◌≤◌, vec_len, vec_capacity}
use Rattle.driver.proofs.storage.tasks_for.Given as goal

abbrev pub invariant-loop : goal.invariant-loop
invariant-loop g l = record {
  number : vec_len l.tasks ≡ l.counter;
  room : l.count ≤ vec_capacity l.tasks;
}
