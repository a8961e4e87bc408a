use Rattle.std.proofs.Common.{◌≡◌}
use Rattle.audit.proofs.hosts.TracedHosts.rest_of_each.Given as goal

abbrev pub invariant-loop-site : goal.invariant-loop-site
invariant-loop-site l = l.self ≡ l.fn.self
