use Rattle.std.proofs.Common.{◌≡◌, ◌≤◌, ◌++◌, ℕ, Bor, length, map, reverse}
use Rattle.std.specs.Map.{keys_of}
use Rattle.conn_log.specs.Behind.{left_open}
use Rattle.conn_log.proofs.readers.open_in_base.Given as goal

abbrev pub invariant-loop-number : goal.invariant-loop-number
invariant-loop-number l = record {
  parts : map (λ (b : Bor ℕ). b.now) l.yielded ++ l.number-iterator ≡ keys_of l.fn.base.connections;
  counted : l.count ≡ length (left_open (reverse l.fn.rest) (reverse (map (λ (b : Bor ℕ). b.now) l.yielded)));
  bounded : l.count ≤ length l.yielded;
}
