use Rattle.cache.proofs.Waits.{waits_for_room}
use Rattle.cache.proofs.laws.nobody_waits_beside_room.Goals as goal

pub returns : goal.returns
returns c = record { waits = waits_for_room }
