use Rattle.std.proofs.Common.{arith}
use Rattle.load_report.proofs.HostReports.{reports_more}
use Rattle.load_report.proofs.reporting.host_reports.Goals as goal

pub loop-counts-preserved : goal.loop-counts-preserved
loop-counts-preserved c =
    reports_more c.args.hosts.now c.loop-counts.counts-index c.loop-counts.reports.items c.push.new.self.items c.counts-item.result c.job_report.result (omega arith) c.loop-counts.invariant
    c.counts-item.is c.job_report.ensures c.in_ok-push.ensures.items
