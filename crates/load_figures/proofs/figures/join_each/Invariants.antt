use Rattle.std.proofs.Common.{◌≡◌}
use Rattle.load_figures.proofs.Lists.{each_up_to}
use Rattle.load_figures.specs.Counts.{joined}
use Rattle.load_figures.proofs.figures.join_each.Given as goal

abbrev pub invariant-loop-place : goal.invariant-loop-place
invariant-loop-place l = l.hosts ≡ each_up_to l.place joined l.fn.hosts l.others
