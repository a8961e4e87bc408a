use Rattle.std.proofs.Common.{◌-◌}
use Rattle.load_figures.proofs.Foldings.{FoldedUpTo, JoinedSoFar}
use Rattle.load_figures.proofs.intervals.Intervals.join.Given as goal

abbrev pub invariant-loop-self : goal.invariant-loop-self
invariant-loop-self l = FoldedUpTo l.other.length_us l.fn.self l.self

abbrev pub decreases-loop-self : goal.decreases-loop-self
decreases-loop-self l = l.length_us - l.self.length_us

abbrev pub invariant-loop-first : goal.invariant-loop-first
invariant-loop-first l = JoinedSoFar l.first l.other l.fn.self l.self
