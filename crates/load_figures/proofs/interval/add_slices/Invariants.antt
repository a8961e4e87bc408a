use Rattle.std.proofs.Common.{◌≡◌}
use Rattle.load_figures.proofs.Lists.{each_up_to}
use Rattle.load_figures.specs.Intervals.{capped_slices}
use Rattle.load_figures.proofs.interval.add_slices.Given as goal

abbrev pub invariant-loop-place : goal.invariant-loop-place
invariant-loop-place l = l.slices ≡ each_up_to l.place capped_slices l.fn.slices l.others
