use Rattle.std.proofs.Common.{◌≡◌, replicate}
use Rattle.log_judge.specs.AllHosts.{begun}
use Rattle.log_judge.proofs.monitor.Monitor.new.Given as goal

abbrev pub invariant-loop : goal.invariant-loop
invariant-loop l = l.monitors.items ≡ replicate l.counter (begun l.limits.host)
