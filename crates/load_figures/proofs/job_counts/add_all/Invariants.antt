use Rattle.std.proofs.Common.{◌≡◌}
use Rattle.load_figures.proofs.Lists.{each_up_to}
use Rattle.load_figures.specs.Counts.{capped_sum}
use Rattle.load_figures.proofs.job_counts.add_all.Given as goal

abbrev pub invariant-loop-place : goal.invariant-loop-place
invariant-loop-place l = l.counts ≡ each_up_to l.place capped_sum l.fn.counts l.others
