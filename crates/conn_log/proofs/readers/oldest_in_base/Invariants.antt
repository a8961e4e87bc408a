use Rattle.std.proofs.Common.{◌≡◌, ◌++◌, ℕ, Bor, map, reverse}
use Rattle.std.specs.Map.{keys_of}
use Rattle.conn_log.specs.Behind.{oldest_among}
use Rattle.conn_log.proofs.readers.oldest_in_base.Given as goal

abbrev pub invariant-loop-number : goal.invariant-loop-number
invariant-loop-number l = record {
  parts : map (λ (b : Bor ℕ). b.now) l.yielded ++ l.number-iterator ≡ keys_of l.fn.base.connections;
  oldest : l.oldest ≡ oldest_among l.fn.base (reverse l.fn.rest) l.fn.host (reverse (map (λ (b : Bor ℕ). b.now) l.yielded));
}
