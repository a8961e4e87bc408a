use Rattle.std.proofs.Common.{rules}
use Rattle.budget.proofs.Keeps.{total_word, gives}
use Rattle.budget.proofs.words.budget.WordBudget.free_open.Goals as goal

pub fetch_sub-requires : goal.fetch_sub-requires
fetch_sub-requires g c = (search rules, search rules, gives _ (total_word _) _ _ _ c.seat.invariant.share (search rules))
