use Rattle.std.proofs.Common.{rules}
use Rattle.budget.proofs.Keeps.{total_word, kept_word, joins, compares}
use Rattle.budget.proofs.words.budget.WordBudget.join.Goals as goal

pub join_seat-requires : goal.join_seat-requires
join_seat-requires g c = (search rules, search rules, search rules, search rules, joins _ _ _ _ _ c.seat.invariant.share)

pub load-requires : goal.load-requires
load-requires g c = (search rules, search rules, compares _ (total_word _) _ _ _ (search rules))

pub load-requires-2 : goal.load-requires-2
load-requires-2 g c = (search rules, search rules, compares _ (kept_word _) _ _ _ (search rules))
