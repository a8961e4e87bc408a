use Rattle.std.proofs.Common.{◌≡◌}
use Rattle.load_figures.proofs.CountLemmas.{sums_up_to}
use Rattle.load_figures.proofs.histogram.add_counts.Given as goal

abbrev pub invariant-loop-place : goal.invariant-loop-place
invariant-loop-place l = l.counts ≡ sums_up_to l.place l.fn.counts l.others
