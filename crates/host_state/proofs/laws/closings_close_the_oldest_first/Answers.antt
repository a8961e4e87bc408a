use Rattle.host_state.proofs.ClosingOrder.{oldest_closed_first}
use Rattle.host_state.proofs.laws.closings_close_the_oldest_first.Goals as goal

pub returns : goal.returns
returns c = record { order = oldest_closed_first }
