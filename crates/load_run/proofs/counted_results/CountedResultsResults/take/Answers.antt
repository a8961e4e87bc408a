use Rattle.std.proofs.Common.{rules, ◌∙◌, sym, refl}
use Rattle.load_run.proofs.TakenResults.{takes_unbegun, takes_warm, takes_counted}
use Rattle.load_run.proofs.counted_results.CountedResultsResults.take.Goals as goal

pub returns-then-has_not_begun : goal.returns-then-has_not_begun
returns-then-has_not_begun c = takes_unbegun c.args.number c.args.done c.args.span c.args.self.now _ (sym c.has_not_begun.ensures ∙ c.if-has_not_begun.true) (search rules)

pub returns-then-span-warm : goal.returns-then-span-warm
returns-then-span-warm c = takes_warm c.args.number c.args.done c.args.span c.args.self.now c.args.self.now (sym c.has_not_begun.ensures ∙ c.if-has_not_begun.false) (search rules) refl

pub returns : goal.returns
returns c = takes_counted c.args.number c.args.done c.args.span c.args.self.now _ (sym c.has_not_begun.ensures ∙ c.if-has_not_begun.false) (search rules)
    (record { figures = record { all = search rules; sites = search rules; intervals = search rules }; unbegun = search rules; counting = search rules })
