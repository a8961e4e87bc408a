use Rattle.cache.proofs.Homes.{home_cut}
use Rattle.memory_tests.proofs.Homes.{kept_at}
use Rattle.memory_tests.proofs.pool_desk.PoolDesk.cut.Goals as goal

pub invariant_of-self : goal.invariant_of-self
invariant_of-self g c = kept_at c.self.inside.pool c.cut.new.self c.self.inside.leases.items c.self.inside.tickets.items
    (home_cut c.cut.result (λ part. part.items) _ c.args.site c.self.inside.pool c.cut.new.self c.cut.ensures.done c.cut.ensures.refused) c.self.invariant.leases c.self.invariant.tickets
