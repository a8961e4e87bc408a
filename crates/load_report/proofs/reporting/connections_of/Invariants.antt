use Rattle.std.proofs.Common.{◌≡◌, take}
use Rattle.load_report.specs.Reports.{connections_of}
use Rattle.load_report.proofs.reporting.connections_of.Given as goal

-- the sums of the hosts so far
abbrev pub invariant-loop-host : goal.invariant-loop-host
invariant-loop-host l = l.sums ≡ connections_of (take l.host-index l.hosts)
