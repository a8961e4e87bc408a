use Rattle.std.proofs.Common.{arith}
use Rattle.load_figures.proofs.Foldings.{folded_up_to_more, joined_as_long, joins_line}
use Rattle.load_figures.proofs.intervals.Intervals.join.Goals as goal

pub loop-self-preserved : goal.loop-self-preserved
loop-self-preserved c =
    folded_up_to_more c.args.other.now.length_us c.args.self.now c.loop-self.self c.fold.new.self c.loop-self.invariant
    (omega (arith, c.loop-self-test.true, c.length_us.ensures.length, c.length_us-length_us.ensures.length)) c.fold.ensures

pub join_at-requires-clause-as_long : goal.join_at-requires-clause-as_long
join_at-requires-clause-as_long c = joined_as_long c.loop-first.first c.args.other.now c.args.self.now c.loop-first.self c.loop-first.invariant

pub returns : goal.returns
returns c = joins_line c.loop-first.first c.args.other.now c.args.self.now c.loop-first.self (omega arith) c.loop-first.invariant
