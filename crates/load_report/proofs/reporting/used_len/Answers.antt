use Rattle.std.proofs.Common.{ℕ, ◌+◌, List, drop, take, subst, sym, arith}
use Rattle.std.proofs.lemmas.List.{length-take, take_all}
use Rattle.load_figures.specs.Intervals.{IntervalCounts}
use Rattle.load_report.specs.Reports.{AreIdle}
use Rattle.load_report.proofs.Lines.{idle_more, idle_none}
use Rattle.load_report.proofs.reporting.used_len.Goals.{then-requests-gt0, else-requests-gt0}
use Rattle.load_report.proofs.reporting.used_len.Goals as goal

pub loop-place-preserved : goal.loop-place-preserved
loop-place-preserved c = elim c.if-requests-gt0.branch [
  | then-requests-gt0 w ↦ (
    omega (arith, w.used-is),
    subst (λ (n : ℕ). AreIdle (drop n (take (c.loop-place.place + 1) c.args.intervals.now))) (sym w.used-is) (idle_none c.loop-place.place c.args.intervals.now),
  )
  | else-requests-gt0 w ↦ (
    omega (arith, w.used-is, c.loop-place.invariant.0),
    subst (λ (n : ℕ). AreIdle (drop n (take (c.loop-place.place + 1) c.args.intervals.now))) (sym w.used-is)
        (idle_more c.loop-place.used c.loop-place.place c.args.intervals.now c.index-intervals-place.result (omega arith) c.loop-place.invariant.0
        (omega (arith, length-take c.loop-place.place c.args.intervals.now)) c.loop-place.invariant.1 c.index-intervals-place.is (omega (arith, w.if-requests-gt0.false, c.requests.ensures))),
  )
]

pub returns-clause-others : goal.returns-clause-others
returns-clause-others c =
    subst (λ (intervals : List IntervalCounts). AreIdle (drop c.loop-place.used intervals)) (take_all c.loop-place.place c.args.intervals.now (omega arith)) c.loop-place.invariant.1
