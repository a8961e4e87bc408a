use Rattle.std.proofs.Common.{◌≡◌, ◌≤◌, vec_len, vec_capacity}
use Rattle.std.specs.List.{All}
use Rattle.shared_cache.specs.Passes.{IsPassOf, IsNewPass}
use Rattle.driver.proofs.storage.passes_for.Given as goal

abbrev pub invariant-loop : goal.invariant-loop
invariant-loop g l = record {
  number : vec_len l.passes ≡ l.counter;
  room : l.count ≤ vec_capacity l.passes;
  passes : All (IsPassOf g.N.Names.names) l.passes.items;
  new_passes : All IsNewPass l.passes.items;
}
