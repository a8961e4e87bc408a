use Rattle.budget.proofs.LinkSteps.{leaves_unlisted}
use Rattle.budget.proofs.link.Link.delist.Goals as goal

pub visit-requires-clause-leaves : goal.visit-requires-clause-leaves
visit-requires-clause-leaves c same = leaves_unlisted _ _ _ _
