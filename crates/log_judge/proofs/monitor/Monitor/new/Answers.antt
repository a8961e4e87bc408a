use Rattle.std.proofs.Common.{◌<◌, ◌^◌, List, sym, subst, arith}
use Rattle.log_judge.specs.Tables.{HostLog}
use Rattle.log_judge.specs.AllHosts.{AreCounted}
use Rattle.log_judge.proofs.HostTotals.{counted_new}
use Rattle.log_judge.proofs.monitor.Monitor.new.Goals as goal

pub invariant_of-result : goal.invariant_of-result
invariant_of-result c =
    let few : c.loop.counter < 2 ^ 32 = omega (arith, c.loop.auto.counter-end, c.ranges.hosts.fits) in
    subst (λ (hosts : List HostLog). AreCounted c.none.result hosts) (sym c.loop.invariant) (counted_new c.none.result c.args.limits.host c.loop.counter c.none.ensures few)
