use Rattle.std.proofs.Common.{◌≡◌, length, ◌∙◌, arith}
use Rattle.audit.proofs.Outcomes.{kept_new}
use Rattle.audit.proofs.hosts.TracedHosts.new.Goals as goal

pub invariant_of-result : goal.invariant_of-result
invariant_of-result c =
    let all : length c.loop.tables.items ≡ c.args.count = omega (arith, c.loop.invariant, c.loop.auto.counter-end, c.loop-test.false) in
    kept_new c.args.limits c.args.count (length c.loop.tables.items) c.in_ok-monitor.monitor c.in_ok-monitor.ensures all
