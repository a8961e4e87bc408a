use Rattle.std.proofs.Common.{◌/◌}
use Rattle.load_figures.proofs.Foldings.{FoldedFor}
use Rattle.load_figures.proofs.intervals.Intervals.count.Given as goal

abbrev pub invariant-loop-self : goal.invariant-loop-self
invariant-loop-self l = FoldedFor l.ended_us l.fn.self l.self

abbrev pub decreases-loop-self : goal.decreases-loop-self
decreases-loop-self l = l.ended_us / l.self.length_us
