use Rattle.std.proofs.Common.{◌≡◌, ◌≤◌, length, vec_capacity}
use Rattle.cache.specs.NewHosts.{AreNewHosts}
use Rattle.cache.proofs.hosts.add_bundles.Given as goal

abbrev pub invariant-loop-host : goal.invariant-loop-host
invariant-loop-host g l = record {
  new : AreNewHosts l.limits l.host l.bundles.items l.pass;
  accounts : length l.pass ≡ l.hosts;
  room : l.hosts ≤ vec_capacity l.bundles;
}
