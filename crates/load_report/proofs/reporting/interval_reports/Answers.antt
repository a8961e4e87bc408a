use Rattle.std.proofs.Common.{List, take, arith}
use Rattle.std.proofs.lemmas.List.{length-take}
use Rattle.load_figures.specs.Intervals.{IntervalCounts}
use Rattle.load_report.proofs.Lines.{intervals_more}
use Rattle.load_report.proofs.reporting.interval_reports.Goals as goal

pub loop-place-preserved : goal.loop-place-preserved
loop-place-preserved c =
    let first : List IntervalCounts = take c.used_len-used.result c.items-items.result.now in
    intervals_more c.length_us-length_us.result first c.loop-place.place c.loop-place.reports.items c.push.new.self.items c.interval-item.result c.interval_report.result (omega arith)
    (omega (arith, length-take c.loop-place.place first)) c.loop-place.invariant c.interval-item.is c.interval_report.ensures c.in_ok-push.ensures.items
