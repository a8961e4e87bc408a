use Rattle.std.proofs.Common.{◌≡◌, take}
use Rattle.load_report.specs.Accounts.{totals}
use Rattle.load_report.proofs.account_sums.totals.Given as goal

-- the sums of the hosts so far
abbrev pub invariant-loop-host : goal.invariant-loop-host
invariant-loop-host l = l.total ≡ totals (take l.host-index l.hosts)
