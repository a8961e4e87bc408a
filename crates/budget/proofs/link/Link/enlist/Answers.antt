use Rattle.budget.proofs.LinkSteps.{leaves_listed}
use Rattle.budget.proofs.link.Link.enlist.Goals as goal

pub visit-requires-clause-leaves : goal.visit-requires-clause-leaves
visit-requires-clause-leaves c same = leaves_listed _ _ _ _ same c.requires.unmarked
