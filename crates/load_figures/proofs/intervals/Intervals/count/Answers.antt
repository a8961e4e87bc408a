use Rattle.std.proofs.Common.{◌≤◌, ◌/◌, subst, arith}
use Rattle.load_figures.proofs.Foldings.{folded_for_more, folding_ends}
use Rattle.load_figures.proofs.intervals.Intervals.count.Goals as goal

pub loop-self-smaller : goal.loop-self-smaller
loop-self-smaller c =
    folding_ends c.args.ended_us c.length_us.result c.loop-self.self c.fold.new.self c.length_us.ensures.length c.length_us.ensures.long c.loop-self-test.true (omega arith) c.fold.ensures

pub loop-self-preserved : goal.loop-self-preserved
loop-self-preserved c =
    folded_for_more c.args.ended_us c.args.self.now c.loop-self.self c.fold.new.self c.loop-self.invariant (subst (λ n. 600 ≤ c.args.ended_us / n) c.length_us.ensures.length c.loop-self-test.true) c.fold.ensures
