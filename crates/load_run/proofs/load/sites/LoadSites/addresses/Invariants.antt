use Rattle.std.proofs.Common.{◌≡◌, All, length}
use Rattle.socket.specs.declared.addresses.Addresses.{Addresses}
use Rattle.load_run.specs.LoadSites.{AreHostsOf}
use Rattle.load_run.proofs.load.sites.LoadSites.addresses.Given as goal

abbrev pub invariant-loop : goal.invariant-loop
invariant-loop l = record {
  count : length l.all.items ≡ l.counter;
  hosts : All (λ (own : Addresses). AreHostsOf l.each l.self.sites.items own.hosts.items) l.all.items;
  number : All (λ (own : Addresses). length own.hosts.items ≡ l.hosts) l.all.items;
}
