use Rattle.std.proofs.Common.{◌≡◌}
use Rattle.measures.proofs.limits.keep_pairs.Given as goal

abbrev pub invariant-loop : goal.invariant-loop
invariant-loop l = l.seat.table ≡ l.initial.seat.table
