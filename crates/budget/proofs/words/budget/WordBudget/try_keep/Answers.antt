use Rattle.std.proofs.Common.{rules, ap, sym, ◌∙◌}
use Rattle.budget.specs.Limits.{Bounds}
use Rattle.budget.proofs.Keeps.{kept_word, takes}
use Rattle.budget.proofs.words.budget.WordBudget.try_keep.Goals as goal

pub compare_exchange-found-requires : goal.compare_exchange-found-requires
compare_exchange-found-requires g c = (search rules, search rules, takes _ (kept_word _) _ _ _ _ (search rules) (search rules) (λ e. c.if-kept-from.false (e ∙ ap (λ (limits : Bounds). limits.connects) c.self.invariant.limits ∙ sym (c.from.ensures ∙ c.connects.ensures.connects))))
