use Rattle.std.proofs.Common.{take}
use Rattle.load_report.specs.Reports.{AreIntervalReports}
use Rattle.load_report.proofs.reporting.interval_reports.Given as goal

abbrev pub invariant-loop-place : goal.invariant-loop-place
invariant-loop-place l = AreIntervalReports 0 l.length_us (take l.place l.interval-items) l.reports.items
