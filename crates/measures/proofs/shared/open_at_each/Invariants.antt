use Rattle.shared_cache.specs.Passes.{IsPassOf}
use Rattle.measures.proofs.shared.open_at_each.Given as goal

abbrev pub invariant-loop-site : goal.invariant-loop-site
invariant-loop-site g l = IsPassOf g.N.Names.names l.pass
