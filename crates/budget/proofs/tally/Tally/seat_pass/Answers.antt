use Rattle.std.proofs.Common.{arith}
use Rattle.budget.proofs.TallySteps.{seats_pass}
use Rattle.budget.proofs.tally.Tally.seat_pass.Goals as goal

pub split_seat-seat-requires : goal.split_seat-seat-requires
split_seat-seat-requires c =
    let i = c.self.invariant in
    (i.seated, omega arith, seats_pass _ _)
