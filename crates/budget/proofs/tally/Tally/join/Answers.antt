use Rattle.std.proofs.Common.{sym, ap, ◌∙◌, arith}
use Rattle.budget.specs.Starts.{Starts, Spendings}
use Rattle.budget.proofs.TallySteps.{spends_start, reads_more}
use Rattle.budget.proofs.tally.Tally.join.Goals as goal

pub join_seat-requires : goal.join_seat-requires
join_seat-requires c =
    let i = c.self.invariant in
    let own = sym (ap (λ (v : Starts). v.table) c.self.view_is) ∙ i.seated in (
      ap (λ (v : Spendings). v.table) c.pass.view_is ∙ (c.requires.pass ∙ own),
      c.start.view_is ∙ (c.requires.start ∙ own),
      c.start.invariant.bare,
      omega arith,
      spends_start _ _ _ _ _ c.pass.invariant.pass c.start.invariant.lease,
    )

pub load-starts-requires : goal.load-starts-requires
load-starts-requires c =
    let i = c.self.invariant in
    let own = sym (ap (λ (v : Starts). v.table) c.self.view_is) ∙ i.seated in
    (c.join_seat.ensures.0 ∙ (ap (λ (v : Spendings). v.table) c.pass.view_is ∙ (c.requires.pass ∙ own)), omega arith, reads_more _ _ _)
