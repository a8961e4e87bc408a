use Rattle.std.proofs.Common.{◌≡◌, ◌<◌, ◌+◌, length}
use Rattle.std.specs.BTreeMap.{keys, btree_map_len}
use Rattle.cache.specs.Pools.{host_at, StaysPool, KeepsOtherHosts}
use Rattle.script_engine.specs.Hosted.{KeepsDue, kept_at, merged}
use Rattle.script_engine.specs.Ending.{after_all_at}
use Rattle.script_engine.proofs.site_leases.SiteLeases.spend_all.Given as goal

-- once those that are left gave up what they have, all is as it is due
abbrev pub invariant-loop : goal.invariant-loop
invariant-loop l =
    record {
      there : l.site < length l.pool.hosts;
      keeps : KeepsDue (host_at l.pool l.site) l.self;
      others : KeepsOtherHosts l.site l.fn.pool l.pool;
      stays : StaysPool l.fn.pool l.pool;
      due : after_all_at l.fn.pool.limits l.site (kept_at l.pool l.self) (merged (keys l.self.leases) (keys l.self.tickets))
          ≡ after_all_at l.fn.pool.limits l.site (kept_at l.fn.pool l.fn.self) (merged (keys l.fn.self.leases) (keys l.fn.self.tickets));
    }

abbrev pub decreases-loop : goal.decreases-loop
decreases-loop l = btree_map_len l.self.leases + btree_map_len l.self.tickets
