use Rattle.std.proofs.Common.{◌≡◌, All, take}
use Rattle.crawl.specs.Hosts.{IsInUse}
use Rattle.crawl.proofs.hosts.Hosts.mark_in_flight.Given as goal

abbrev pub invariant-loop-one : goal.invariant-loop-one
invariant-loop-one l = (l.self.table ≡ l.fn.self.table) × All (IsInUse l.self.in_use.items) (take l.one-index l.in_flight)
