use Rattle.std.proofs.Common.{subst}
use Rattle.cache_trait.specs.CacheCalls.CacheCall.{gives_back}
use Rattle.cache.specs.Calls.{given_back}
use Rattle.cache.specs.Pools.{all_hosts}
use Rattle.cache.specs.PoolCalls.{DidToPool}
use Rattle.cache.proofs.PoolCalls.{back_on}
use Rattle.cache.proofs.pool.Pool.give_back.Goals as goal

pub returns : goal.returns
returns g c =
    let lease = c.args.lease in
    let start = c.self.inside.hosts in
    let end = given_back start.limits lease.site lease.start.number c.args.facts c.args.now (all_hosts start) in
    subst (λ p. DidToPool p c.serve.new.self (gives_back lease c.args.facts c.args.now)) c.self.view_is
    (back_on start c.give_back.new.self c.serve.new.self c.args.now c.serve.ensures.done end lease c.serve.ensures.spent c.give_back.ensures)
