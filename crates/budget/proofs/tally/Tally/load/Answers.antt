use Rattle.std.proofs.Common.{arith}
use Rattle.budget.proofs.TallySteps.{reads_starts}
use Rattle.budget.proofs.tally.Tally.load.Goals as goal

pub load-requires : goal.load-requires
load-requires c =
    let i = c.self.invariant in
    (i.seated, omega arith, reads_starts _ _ _ _ _ i.host)
