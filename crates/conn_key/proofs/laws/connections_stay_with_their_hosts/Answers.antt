use Rattle.conn_key.proofs.GivingLemmas.{connections_are, connections_stay}
use Rattle.conn_key.proofs.laws.connections_stay_with_their_hosts.Goals as goal

pub returns-clause-stay : goal.returns-clause-stay
returns-clause-stay c = connections_stay

pub returns-clause-are : goal.returns-clause-are
returns-clause-are c = connections_are
