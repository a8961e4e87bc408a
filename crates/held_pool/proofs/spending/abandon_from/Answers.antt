use Rattle.cache.proofs.Homes.{made_by}
use Rattle.held_pool.proofs.spending.abandon_from.Goals as goal

pub abandon-requires : goal.abandon-requires
abandon-requires c = record { here = made_by c.args.pool.now c.args.lease c.requires.0 }
