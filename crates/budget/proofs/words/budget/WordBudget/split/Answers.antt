use Rattle.std.proofs.Common.{rules}
use Rattle.budget.proofs.Keeps.{parts}
use Rattle.budget.proofs.words.budget.WordBudget.split.Goals as goal

pub split_seat-requires : goal.split_seat-requires
split_seat-requires g c = (search rules, search rules, parts _ _ _ (search rules))
