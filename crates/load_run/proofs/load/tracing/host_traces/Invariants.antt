use Rattle.std.proofs.Common.{◌≡◌, length}
use Rattle.load_run.specs.LoadTraces.{AreNewHosts}
use Rattle.load_run.proofs.load.tracing.host_traces.Given as goal

abbrev pub invariant-loop-host : goal.invariant-loop-host
invariant-loop-host l = record { new : AreNewHosts 0 l.hosts.items; count_is : length l.hosts.items ≡ l.host }
