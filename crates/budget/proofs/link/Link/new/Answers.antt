use Rattle.budget.proofs.LinkSteps.{begins}
use Rattle.budget.proofs.link.Link.new.Goals as goal

pub of_words-requires : goal.of_words-requires
of_words-requires c = begins
