use Rattle.std.proofs.Common.{arith}
use Rattle.budget.proofs.HoldersSteps.{marks_named}
use Rattle.budget.proofs.holders.mark_pair.Goals as goal

pub fetch_add-requires : goal.fetch_add-requires
fetch_add-requires g c =
    let one = c.requires.seated.1 in
    (c.requires.seated.0, omega arith, marks_named _ _ _ _ _ _ _ c.requires.pair c.requires.host c.requires.apart c.requires.room)
