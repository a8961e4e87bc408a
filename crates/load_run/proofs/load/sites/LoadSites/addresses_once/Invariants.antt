use Rattle.std.proofs.Common.{◌≡◌, length}
use Rattle.load_run.specs.LoadSites.{AreHostsOf}
use Rattle.load_run.proofs.load.sites.LoadSites.addresses_once.Given as goal

-- the hosts so far
abbrev pub invariant-loop-host : goal.invariant-loop-host
invariant-loop-host l = record { hosts : AreHostsOf l.each l.self.sites.items l.addresses.hosts.items; number : length l.addresses.hosts.items ≡ l.host }
