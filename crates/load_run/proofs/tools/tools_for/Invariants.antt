use Rattle.std.proofs.Common.{◌≡◌, ◌+◌, ◌≤◌, length, vec_len, vec_capacity}
use Rattle.std.specs.List.{All}
use Rattle.load_run.specs.Counting.{IsUncounted}
use Rattle.load_run.proofs.tools.tools_for.Given as goal

abbrev pub decreases-loop-last : goal.decreases-loop-last
decreases-loop-last l = length l.addresses.items

abbrev pub invariant-loop-last : goal.invariant-loop-last
invariant-loop-last l = record {
  number : vec_len l.tools + vec_len l.addresses ≡ vec_len l.fn.addresses;
  room : vec_len l.fn.addresses ≤ vec_capacity l.tools;
  uncounted : All (λ own. IsUncounted l.hosts l.counting own.results) l.tools.items;
}
