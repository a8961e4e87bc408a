use Rattle.std.proofs.Common.{sym}
use Rattle.cache.proofs.PoolCalls.{all_on}
use Rattle.cache.proofs.pool.Pool.set_host_limit.Goals as goal

pub returns-clause-done : goal.returns-clause-done
returns-clause-done g c = rw (sym c.self.view_is) (all_on c.self.inside.hosts c.set_host_limit.new.self c.serve.new.self c.args.now c.serve.ensures.done _ c.in_ok-set_host_limit.ensures.done)
