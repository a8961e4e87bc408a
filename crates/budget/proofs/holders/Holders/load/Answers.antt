use Rattle.std.proofs.Common.{arith}
use Rattle.budget.proofs.HoldersSteps.{reads_held}
use Rattle.budget.proofs.holders.Holders.load.Goals as goal

pub load-requires : goal.load-requires
load-requires c =
    let i = c.self.invariant in
    (i.seated, omega arith, reads_held _ _ _ _ _ _ i.host)
