use Rattle.std.proofs.Common.{sym, ap, ◌∙◌, arith}
use Rattle.budget.specs.Marks.{Listed}
use Rattle.budget.proofs.LinkSteps.{turns}
use Rattle.budget.proofs.link.Link.rotate.Goals as goal

pub load-requires : goal.load-requires
load-requires c =
    let one = c.self.invariant in
    let i = c.lobby.invariant in
    (ap (λ (v : Listed). v.table) c.lobby.view_is ∙ (c.requires ∙ sym c.self.view_is), omega arith, turns _ _ _ _ _ i.first i.lobby)
