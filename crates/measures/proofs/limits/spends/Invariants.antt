use Rattle.std.proofs.Common.{◌≡◌}
use Rattle.measures.proofs.limits.spends.Given as goal

abbrev pub invariant-loop-round : goal.invariant-loop-round
invariant-loop-round l = (l.pass.table ≡ l.tally.table) × (l.tally.counted ≡ l._round)
