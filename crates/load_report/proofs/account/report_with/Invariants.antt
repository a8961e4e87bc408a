use Rattle.std.proofs.Common.{◌≡◌, take, string_bytes}
use Rattle.load_report.specs.Accounts.{host_lines}
use Rattle.load_report.proofs.account.report_with.Given as goal

-- the lines of the hosts so far
abbrev pub invariant-loop-index : goal.invariant-loop-index
invariant-loop-index l = string_bytes l.text ≡ host_lines 0 (take l.index l.hosts)
