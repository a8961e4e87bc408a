use Rattle.script_engine.proofs.Turned.{AreTurned}
use Rattle.script_engine.proofs.hosts.spend_all.Given as goal

abbrev pub invariant-loop-site : goal.invariant-loop-site
invariant-loop-site l = AreTurned l.site l.fn.pool l.pool l.fn.kept.items l.kept.items
