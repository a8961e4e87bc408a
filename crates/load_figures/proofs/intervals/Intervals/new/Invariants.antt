use Rattle.std.proofs.Common.{◌≡◌, replicate}
use Rattle.load_figures.specs.Intervals.{no_interval}
use Rattle.load_figures.proofs.intervals.Intervals.new.Given as goal

abbrev pub invariant-loop : goal.invariant-loop
invariant-loop l = l.items.items ≡ replicate l.counter no_interval
