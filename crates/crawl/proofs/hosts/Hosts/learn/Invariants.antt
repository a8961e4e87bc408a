use Rattle.std.proofs.Common.{◌≡◌}
use Rattle.crawl.proofs.hosts.Hosts.learn.Given as goal

abbrev pub invariant-loop : goal.invariant-loop
invariant-loop g l = (l.self.table ≡ l.fn.self.table) × (l.self.in_use.items ≡ l.fn.self.in_use.items)
