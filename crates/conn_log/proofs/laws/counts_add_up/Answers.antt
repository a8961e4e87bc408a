use Rattle.conn_log.proofs.CountSums.{counts_add_up}
use Rattle.conn_log.proofs.laws.counts_add_up.Goals as goal

pub returns : goal.returns
returns c = record { opened = counts_add_up }
