use Rattle.std.proofs.Common.{◌≡◌}
use Rattle.cache.specs.Pools.{AreKept}
use Rattle.cache.proofs.StampOrder.{stale}
use Rattle.cache.proofs.TrueStamps.{shown_as, true_stamps}
use Rattle.cache.proofs.hosts.Hosts.oldest.Given as goal

abbrev pub invariant-loop-noted : goal.invariant-loop-noted
invariant-loop-noted g l = record {
  same : shown_as l.self-inside.bundles.items l.self-inside.budget l.self-inside.lobby ≡ l.fn.self;
  kept : AreKept l.self-inside.bundles.items l.self-inside.budget l.self-inside.lobby l.self-inside.pass l.self-inside.noted;
}

abbrev pub decreases-loop-noted : goal.decreases-loop-noted
decreases-loop-noted g l = stale l.self-inside.noted (true_stamps l.self-inside.bundles.items)
