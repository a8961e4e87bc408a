use Rattle.std.proofs.Common.{false, refl, sym, ap, ◌∙◌}
use Rattle.persistence.specs.ReadingStages.{fault_at}
use Rattle.persistence.proofs.StageLemmas.{heads_tell, at_stage, body_clean, body_whole}
use Rattle.persistence.proofs.reader.answer_at.Goals as goal

pub returns-in-Heads-clause-told : goal.returns-in-Heads-clause-told
returns-in-Heads-clause-told c = λ method bytes kept reached.
    (heads_tell method false bytes false c.in-Heads.skipped kept (at_stage method bytes kept c.args.stage.now _ c.in-Heads.is reached)).whole.no refl

pub returns-in-Heads-clause-faultless : goal.returns-in-Heads-clause-faultless
returns-in-Heads-clause-faultless c = λ method bytes kept reached. (
  ap fault_at c.in-Heads.is,
  (heads_tell method false bytes false c.in-Heads.skipped kept (at_stage method bytes kept c.args.stage.now _ c.in-Heads.is reached)).faultless,
)

pub returns-then-is_whole-clause-told : goal.returns-then-is_whole-clause-told
returns-then-is_whole-clause-told c = λ method bytes kept reached.
    (body_whole method bytes kept c.in-Body.head c.in-Body.body (at_stage method bytes kept c.args.stage.now _ c.in-Body.is reached) false).yes (sym c.is_whole.ensures ∙ c.if-is_whole.true)

pub returns-then-is_whole-clause-faultless : goal.returns-then-is_whole-clause-faultless
returns-then-is_whole-clause-faultless c = λ method bytes kept reached. (
  ap fault_at c.in-Body.is,
  body_clean method bytes kept c.in-Body.head c.in-Body.body (at_stage method bytes kept c.args.stage.now _ c.in-Body.is reached),
)

pub returns-else-is_whole-clause-told : goal.returns-else-is_whole-clause-told
returns-else-is_whole-clause-told c = λ method bytes kept reached.
    (body_whole method bytes kept c.in-Body.head c.in-Body.body (at_stage method bytes kept c.args.stage.now _ c.in-Body.is reached) false).no (sym c.is_whole.ensures ∙ c.if-is_whole.false)

pub returns-else-is_whole-clause-faultless : goal.returns-else-is_whole-clause-faultless
returns-else-is_whole-clause-faultless c = λ method bytes kept reached. (
  ap fault_at c.in-Body.is,
  body_clean method bytes kept c.in-Body.head c.in-Body.body (at_stage method bytes kept c.args.stage.now _ c.in-Body.is reached),
)
