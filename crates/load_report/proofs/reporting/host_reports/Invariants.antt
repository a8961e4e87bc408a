use Rattle.std.proofs.Common.{take}
use Rattle.load_report.specs.Reports.{AreReportsOf}
use Rattle.load_report.proofs.reporting.host_reports.Given as goal

abbrev pub invariant-loop-counts : goal.invariant-loop-counts
invariant-loop-counts l = AreReportsOf (take l.counts-index l.hosts) l.reports.items
