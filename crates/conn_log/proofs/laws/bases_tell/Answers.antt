use Rattle.conn_log.proofs.Telling.{base_tells}
use Rattle.conn_log.proofs.Rests.{tells_the_whole}
use Rattle.conn_log.proofs.laws.bases_tell.Goals as goal

pub returns-clause-entries : goal.returns-clause-entries
returns-clause-entries c = base_tells

pub returns-clause-whole : goal.returns-clause-whole
returns-clause-whole c = tells_the_whole
