use Rattle.cache.proofs.Homes.{home_cut}
use Rattle.memory_tests.proofs.Homes.{kept_at}
use Rattle.memory_tests.proofs.pools.cut_at_last.Goals as goal

pub invariant_of-desk : goal.invariant_of-desk
invariant_of-desk g c = kept_at c.desk.inside.pool c.cut.new.self c.desk.inside.leases.items c.desk.inside.tickets.items
    (home_cut c.cut.result (λ part. part.items) _ c.args.site c.desk.inside.pool c.cut.new.self c.cut.ensures.done c.cut.ensures.refused) c.desk.invariant.leases c.desk.invariant.tickets
