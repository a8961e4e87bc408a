use Rattle.std.proofs.Common.{◌≡◌, length, All}
use Rattle.cache_trait.specs.Homes.{IsMadeBy}
use Rattle.cache.specs.PoolCalls.{home_of}
use Rattle.cache_tests.proofs.desk.abandon_all.Given as goal

abbrev pub invariant-loop-lease : goal.invariant-loop-lease
invariant-loop-lease l = record {
  leases : All (λ lease. IsMadeBy (home_of l.pool) lease.site lease.tables) l.leases.items;
  stays : home_of l.pool ≡ home_of l.fn.pool;
}

abbrev pub decreases-loop-lease : goal.decreases-loop-lease
decreases-loop-lease l = length l.leases.items
