use Rattle.script_engine.specs.Hosted.{NothingIsKept}
use Rattle.script_engine.proofs.hosts.destroy_all.Given as goal

abbrev pub invariant-loop-here : goal.invariant-loop-here
invariant-loop-here l = NothingIsKept l.kept.items

abbrev pub decreases-loop-here : goal.decreases-loop-here
decreases-loop-here l = goal.left-loop-here l
