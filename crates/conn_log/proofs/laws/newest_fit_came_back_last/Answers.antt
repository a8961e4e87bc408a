use Rattle.conn_log.proofs.Extremes.{newest_law, no_newest_law}
use Rattle.conn_log.proofs.laws.newest_fit_came_back_last.Goals as goal

pub returns-clause-newest : goal.returns-clause-newest
returns-clause-newest c = newest_law

pub returns-clause-none : goal.returns-clause-none
returns-clause-none c = no_newest_law
