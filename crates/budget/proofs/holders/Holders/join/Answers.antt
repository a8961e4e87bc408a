use Rattle.std.proofs.Common.{sym, ap, ◌∙◌, arith}
use Rattle.budget.specs.Pairs.{HeldPairs, LeaseOf}
use Rattle.budget.proofs.HoldersSteps.{takes_back, alone}
use Rattle.budget.proofs.holders.Holders.join.Goals as goal

pub join_seat-requires : goal.join_seat-requires
join_seat-requires c =
    let i = c.self.invariant in
    let lease = c.lease.invariant in (
      i.seated,
      ap (λ (v : LeaseOf). v.table) c.lease.view_is ∙ (c.requires.table ∙ (sym (ap (λ (v : HeldPairs). v.table) c.self.view_is) ∙ i.seated)),
      lease.bare,
      omega arith,
      takes_back _ _ _ _ _ _ _ (alone _ _ _ _ i.host (ap (λ (v : HeldPairs). v.back) c.self.view_is ∙ c.requires.back)) lease.lease,
    )
