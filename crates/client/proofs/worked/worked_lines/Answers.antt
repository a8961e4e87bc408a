use Rattle.std.proofs.Common.{refl}
use Rattle.std.specs.Fmt.{digits}
use Rattle.client.proofs.worked.worked_lines.Goals as goal

pub returns-clause-responses : goal.returns-clause-responses
unfolding digits
returns-clause-responses c = λ facts. (refl, refl)

pub returns-clause-faults : goal.returns-clause-faults
returns-clause-faults c = (refl, refl, refl)
