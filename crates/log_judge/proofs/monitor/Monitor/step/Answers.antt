use Rattle.std.proofs.Common.{◌<◌, length, sym, subst}
use Rattle.log_judge.specs.AllHosts.{AllHosts}
use Rattle.log_judge.proofs.HostTotals.{have_room, counted_after}
use Rattle.log_judge.proofs.monitor.Monitor.step.Goals as goal

pub exchange-requires-clause-room : goal.exchange-requires-clause-room
exchange-requires-clause-room c = have_room c.self.inside.totals c.self.inside.hosts.items c.self.invariant

pub invariant_of-self-2 : goal.invariant_of-self-2
invariant_of-self-2 c =
    let hosts = c.self.inside.hosts.items in
    let there = subst (λ (all : AllHosts). c.args.site < length all.hosts) (sym c.self.view_is) c.requires.there in
    let before = c.of-before.ensures.totals in
    let after = c.of-after.ensures in
    counted_after c.self.inside.totals hosts c.self.invariant c.args.site c.index_mut-host.result.now c.step.new.self c.of-before.result c.of-after.result c.exchange.new.self there c.index_mut-host.ensures.value before after.totals after.few c.exchange.ensures
