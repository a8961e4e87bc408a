use Rattle.std.proofs.Common.{◌≤◌}
use Rattle.shared_cache.specs.Passes.{IsPassOf}
use Rattle.measures.proofs.shared.open_at.Given as goal

abbrev pub invariant-loop-transfer : goal.invariant-loop-transfer
invariant-loop-transfer g l = (l.opened ≤ l.transfer) × IsPassOf g.N.Names.names l.pass
