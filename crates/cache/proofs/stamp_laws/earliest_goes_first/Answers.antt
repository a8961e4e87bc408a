use Rattle.cache.proofs.EarliestStamps.{earliest_first, no_earliest}
use Rattle.cache.proofs.stamp_laws.earliest_goes_first.Goals as goal

pub returns-clause-earliest : goal.returns-clause-earliest
returns-clause-earliest c = earliest_first

pub returns-clause-none : goal.returns-clause-none
returns-clause-none c = no_earliest
