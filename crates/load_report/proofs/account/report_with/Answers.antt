use Rattle.std.proofs.Common.{string_bytes}
use Rattle.load_report.proofs.AccountLines.{host_line_written, report_written}
use Rattle.load_report.proofs.account.report_with.Goals as goal

pub loop-index-preserved : goal.loop-index-preserved
loop-index-preserved c = host_line_written (string_bytes c.loop-index.text) (string_bytes c.add_host_line.new.text) c.args.hosts.now c.loop-index.index _ c.loop-index-test.true c.loop-index.invariant c.in_ok-add_host_line.ensures

pub returns-clause-text : goal.returns-clause-text
returns-clause-text c = report_written c.args.hosts.now c.args.sums c.loop-index.index (string_bytes c.loop-index.text) (string_bytes c.add_total_line.new.text) (string_bytes c.add_sums_line.new.text)
    c.loop-index-test.false c.loop-index.invariant c.in_ok-add_total_line.ensures c.in_ok-add_sums_line.ensures
