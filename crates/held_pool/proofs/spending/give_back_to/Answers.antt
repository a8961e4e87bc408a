use Rattle.cache.proofs.Homes.{made_by}
use Rattle.held_pool.proofs.spending.give_back_to.Goals as goal

pub give_back-requires-clause-here : goal.give_back-requires-clause-here
give_back-requires-clause-here c = made_by c.args.pool.now c.args.lease c.requires.due.0
