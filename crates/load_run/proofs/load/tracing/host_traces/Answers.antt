use Rattle.std.proofs.Common.{[], ◌∷◌, arith}
use Rattle.std.proofs.lemmas.List.{length-append}
use Rattle.load_run.proofs.LoadTraces.{new_hosts_more}
use Rattle.load_run.proofs.load.tracing.host_traces.Goals as goal

pub loop-host-preserved : goal.loop-host-preserved
loop-host-preserved c =
    let hosts = c.loop-host.hosts.items in
    let host = c.new.result in
    record {
      new = rw c.in_ok-push.ensures.items (new_hosts_more 0 hosts host c.loop-host.invariant.new (omega (arith, c.new.ensures.host, c.loop-host.invariant.count_is)) c.new.ensures.uses);
      count_is = rw c.in_ok-push.ensures.items (omega (arith, c.loop-host.invariant.count_is, length-append hosts (host ∷ [])));
    }
