use Rattle.cache.proofs.Homes.{home_at_all}
use Rattle.memory_tests.proofs.Homes.{kept_at}
use Rattle.memory_tests.proofs.pool_desk.PoolDesk.prune.Goals as goal

pub invariant_of-self : goal.invariant_of-self
invariant_of-self c = kept_at c.self.inside.pool c.prune.new.self c.self.inside.leases.items c.self.inside.tickets.items
    (home_at_all _ c.self.inside.pool c.prune.new.self c.prune.ensures.done) c.self.invariant.leases c.self.invariant.tickets
