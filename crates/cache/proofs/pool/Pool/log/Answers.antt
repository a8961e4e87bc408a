use Rattle.std.proofs.Common.{sym}
use Rattle.cache.proofs.pool.Pool.log.Goals as goal

pub returns-clause-unclaimed : goal.returns-clause-unclaimed
returns-clause-unclaimed g c = rw (sym c.self.view_is) c.log.ensures.unclaimed
