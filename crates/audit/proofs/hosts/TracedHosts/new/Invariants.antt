use Rattle.std.proofs.Common.{◌≡◌, length}
use Rattle.audit.proofs.hosts.TracedHosts.new.Given as goal

abbrev pub invariant-loop : goal.invariant-loop
invariant-loop l = length l.tables.items ≡ l.counter
