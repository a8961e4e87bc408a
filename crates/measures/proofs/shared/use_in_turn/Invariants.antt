use Rattle.std.proofs.Common.{◌≤◌}
use Rattle.shared_cache.specs.Passes.{IsPassOf}
use Rattle.measures.proofs.shared.use_in_turn.Given as goal

abbrev pub invariant-loop-round : goal.invariant-loop-round
invariant-loop-round g l = (l.reused ≤ l.round) × (l.opened ≤ l.round) × IsPassOf g.N.Names.names l.pass
