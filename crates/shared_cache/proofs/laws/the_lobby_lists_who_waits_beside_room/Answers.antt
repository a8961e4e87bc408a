use Rattle.shared_cache.proofs.ListedHosts.{lists_who_waits}
use Rattle.shared_cache.proofs.laws.the_lobby_lists_who_waits_beside_room.Goals as goal

pub returns : goal.returns
returns g c = lists_who_waits
