use Rattle.budget.proofs.TallySteps.{begins}
use Rattle.budget.proofs.tally.Tally.new.Goals as goal

pub of_words-requires : goal.of_words-requires
of_words-requires c = begins
