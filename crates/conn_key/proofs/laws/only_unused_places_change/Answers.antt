use Rattle.conn_key.proofs.GivingLemmas.{host_is_found, only_unused_change}
use Rattle.conn_key.proofs.laws.only_unused_places_change.Goals as goal

pub returns-clause-change : goal.returns-clause-change
returns-clause-change c = only_unused_change

pub returns-clause-found : goal.returns-clause-found
returns-clause-found c = host_is_found
