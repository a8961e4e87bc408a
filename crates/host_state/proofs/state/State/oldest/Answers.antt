use Rattle.host_state.proofs.Replaying.{oldest_read}
use Rattle.host_state.proofs.state.State.oldest.Goals as goal

pub returns : goal.returns
returns g c =
    let item = c.in_ok-oldest.ensures.item in
    let oldest = c.in_ok-oldest.oldest.now in
    rw (← c.self.view_is) (oldest_read c.self.invariant.replays c.self.inside.host oldest (item.3.0) (item.1))
