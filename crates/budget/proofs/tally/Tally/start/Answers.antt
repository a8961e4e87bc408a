use Rattle.std.proofs.Common.{ap, arith}
use Rattle.budget.specs.Starts.{Starts}
use Rattle.budget.proofs.TallySteps.{counts_start}
use Rattle.budget.proofs.tally.Tally.start.Goals as goal

pub fetch_add-requires : goal.fetch_add-requires
fetch_add-requires c =
    let i = c.self.invariant in
    let room = c.requires in
    let same = ap (λ (v : Starts). v.counted) c.self.view_is in
    (i.seated, omega arith, counts_start _ _ _ _ _ i.host (omega arith))
