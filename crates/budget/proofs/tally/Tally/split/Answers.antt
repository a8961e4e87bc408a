use Rattle.std.proofs.Common.{ap, arith}
use Rattle.budget.specs.Starts.{Starts}
use Rattle.budget.proofs.TallySteps.{splits_start}
use Rattle.budget.proofs.tally.Tally.split.Goals as goal

pub split_seat-seat-requires : goal.split_seat-seat-requires
split_seat-seat-requires c =
    let i = c.self.invariant in
    let some_left = c.requires in
    let same = ap (λ (v : Starts). v.unsplit) c.self.view_is in
    (i.seated, omega arith, splits_start _ _ _ _ i.host (omega arith))
