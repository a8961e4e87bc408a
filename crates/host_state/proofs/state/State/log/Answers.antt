use Rattle.host_state.proofs.Transitions.{has_stream}
use Rattle.host_state.proofs.state.State.log.Goals as goal

pub returns-clause-streams : goal.returns-clause-streams
returns-clause-streams g c d = rw (← c.self.view_is) (has_stream _ _ _ _ _ _ c.self.invariant.replays d)
