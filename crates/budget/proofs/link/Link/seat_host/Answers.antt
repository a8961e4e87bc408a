use Rattle.std.proofs.Common.{sym, ap, ◌∙◌, arith}
use Rattle.budget.specs.Marks.{Listed}
use Rattle.budget.proofs.LinkSteps.{seats_host}
use Rattle.budget.proofs.link.Link.seat_host.Goals as goal

pub split_seat-seat-requires : goal.split_seat-seat-requires
split_seat-seat-requires c =
    let one = c.self.invariant in
    let i = c.lobby.invariant in
    (ap (λ (v : Listed). v.table) c.lobby.view_is ∙ (c.requires ∙ sym c.self.view_is), omega arith, seats_host _ _ _ _ i.first i.lobby)
