use Rattle.budget.proofs.HoldersSteps.{begins}
use Rattle.budget.proofs.holders.Holders.new.Goals as goal

pub of_words-requires : goal.of_words-requires
of_words-requires c = begins
