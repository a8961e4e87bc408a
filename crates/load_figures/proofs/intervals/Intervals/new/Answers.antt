use Rattle.std.proofs.Common.{◌≡◌, List, replicate, ap, ◌∙◌, arith}
use Rattle.load_figures.specs.Intervals.{IntervalCounts, no_interval}
use Rattle.load_figures.proofs.Places.{line_of}
use Rattle.load_figures.proofs.intervals.Intervals.new.Goals as goal

pub returns : goal.returns
returns c =
    let all : c.loop.counter ≡ 600 = omega arith in
    ap (λ (items : List IntervalCounts). line_of 100000 items) (c.loop.invariant ∙ ap (λ n. replicate n no_interval) all)
