use Rattle.conn_log.proofs.Bases.{lead_append}
use Rattle.conn_log.proofs.Tallies.{counts_append}
use Rattle.conn_log.proofs.laws.parts_add_up.Goals as goal

pub returns-clause-bases : goal.returns-clause-bases
returns-clause-bases c = lead_append

pub returns-clause-counts : goal.returns-clause-counts
returns-clause-counts c = counts_append
