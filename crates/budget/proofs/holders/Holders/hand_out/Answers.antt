use Rattle.std.proofs.Common.{IsSome, sym, subst, arith}
use Rattle.budget.specs.Pairs.{HeldPairs}
use Rattle.budget.proofs.HoldersSteps.{hands_back}
use Rattle.budget.proofs.holders.Holders.hand_out.Goals as goal

pub split_seat-seat-requires : goal.split_seat-seat-requires
split_seat-seat-requires c =
    let i = c.self.invariant in
    (i.seated, omega arith, hands_back _ _ _ _ _ i.host (subst (λ (v : HeldPairs). IsSome v.back) (sym c.self.view_is) c.requires))
