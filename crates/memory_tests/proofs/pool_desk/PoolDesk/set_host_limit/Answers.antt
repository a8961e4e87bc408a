use Rattle.cache.proofs.Homes.{home_if_done}
use Rattle.memory_tests.proofs.Homes.{kept_at}
use Rattle.memory_tests.proofs.pool_desk.PoolDesk.set_host_limit.Goals as goal

pub invariant_of-self : goal.invariant_of-self
invariant_of-self c = kept_at c.self.inside.pool c.set_host_limit.new.self c.self.inside.leases.items c.self.inside.tickets.items
    (home_if_done c.set_host_limit.result _ _ c.self.inside.pool c.set_host_limit.new.self c.set_host_limit.ensures.done c.set_host_limit.ensures.refused) c.self.invariant.leases c.self.invariant.tickets
