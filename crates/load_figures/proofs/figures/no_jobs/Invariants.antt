use Rattle.std.proofs.Common.{◌≡◌, replicate}
use Rattle.load_figures.specs.Counts.{no_job}
use Rattle.load_figures.proofs.figures.no_jobs.Given as goal

abbrev pub invariant-loop : goal.invariant-loop
invariant-loop l = l.counts.items ≡ replicate l.counter no_job
