use Rattle.std.proofs.Common.{rules, ap, sym, ◌∙◌}
use Rattle.budget.specs.Limits.{Bounds}
use Rattle.budget.proofs.Keeps.{total_word, takes}
use Rattle.budget.proofs.words.budget.WordBudget.try_open.Goals as goal

pub compare_exchange-found-requires : goal.compare_exchange-found-requires
compare_exchange-found-requires g c = (search rules, search rules, takes _ (total_word _) _ _ _ _ (search rules) (search rules) (λ e. c.if-total-from.false (e ∙ ap (λ (limits : Bounds). limits.total) c.self.invariant.limits ∙ sym (c.from.ensures ∙ c.total.ensures.total))))
