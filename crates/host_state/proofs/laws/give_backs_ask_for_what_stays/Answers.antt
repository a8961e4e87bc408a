use Rattle.host_state.proofs.AsksToKeep.{kept_is_idle}
use Rattle.host_state.proofs.laws.give_backs_ask_for_what_stays.Goals as goal

pub returns : goal.returns
returns c = kept_is_idle
