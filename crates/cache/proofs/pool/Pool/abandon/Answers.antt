use Rattle.std.proofs.Common.{subst}
use Rattle.cache_trait.specs.CacheCalls.CacheCall.{abandons}
use Rattle.cache.specs.Calls.{abandoned}
use Rattle.cache.specs.Pools.{all_hosts}
use Rattle.cache.specs.PoolCalls.{DidToPool}
use Rattle.cache.proofs.PoolCalls.{abandon_on}
use Rattle.cache.proofs.pool.Pool.abandon.Goals as goal

pub returns : goal.returns
returns g c =
    let lease = c.args.lease in
    let start = c.self.inside.hosts in
    let end = abandoned start.limits lease.site lease.start.number c.args.now (all_hosts start) in
    subst (λ p. DidToPool p c.serve.new.self (abandons lease c.args.now)) c.self.view_is
    (abandon_on start c.abandon.new.self c.serve.new.self c.args.now c.serve.ensures.done end lease c.serve.ensures.spent c.abandon.ensures)
