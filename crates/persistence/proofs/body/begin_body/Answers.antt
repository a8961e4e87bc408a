use Rattle.std.proofs.Common.{refl}
use Rattle.persistence.proofs.ChunkStepLemmas.{first_line_due}
use Rattle.persistence.proofs.body.begin_body.Goals as goal

pub returns-in-Chunked-clause-begun : goal.returns-in-Chunked-clause-begun
returns-in-Chunked-clause-begun c = (c.in-Chunked.is, record { due = first_line_due; none_after = refl })
