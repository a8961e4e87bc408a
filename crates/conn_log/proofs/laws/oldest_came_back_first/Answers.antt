use Rattle.conn_log.proofs.Extremes.{oldest_law, no_oldest_law}
use Rattle.conn_log.proofs.laws.oldest_came_back_first.Goals as goal

pub returns-clause-oldest : goal.returns-clause-oldest
returns-clause-oldest c = oldest_law

pub returns-clause-none : goal.returns-clause-none
returns-clause-none c = no_oldest_law
