use Rattle.std.proofs.Common.{arith}
use Rattle.budget.proofs.HoldersSteps.{splits_named}
use Rattle.budget.proofs.holders.split_pair.Goals as goal

pub split_seat-requires : goal.split_seat-requires
split_seat-requires g c =
    let one = c.requires.seated.1 in
    (c.requires.seated.0, omega arith, splits_named _ _ _ _ _ _ c.requires.pair c.requires.host c.requires.granted)
