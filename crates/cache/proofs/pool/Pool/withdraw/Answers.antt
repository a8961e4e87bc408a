use Rattle.std.proofs.Common.{subst, ap, ◌∙◌}
use Rattle.cache_trait.specs.CacheCalls.CacheCall.{withdraws}
use Rattle.cache.specs.Calls.{withdrawn}
use Rattle.cache.specs.Pools.{all_hosts}
use Rattle.cache.specs.PoolCalls.{home_of, DidToPool}
use Rattle.cache.proofs.PoolCalls.{withdraw_on}
use Rattle.cache.proofs.pool.Pool.withdraw.Goals as goal

did : (g : _) (c : goal.After-serve g) → DidToPool c.self.inside.hosts c.serve.new.self (withdraws c.args.ticket c.args.now)
did g c =
    let ticket = c.args.ticket in
    let start = c.self.inside.hosts in
    let end = withdrawn start.limits ticket.site ticket.wait.want.transfer c.args.now (all_hosts start) in
    withdraw_on start c.withdraw.new.self c.serve.new.self c.args.now c.serve.ensures.done end ticket c.serve.ensures.spent c.in_ok-withdraw.ensures.ok

pub returns-clause-ok : goal.returns-clause-ok
returns-clause-ok g c = subst (λ p. DidToPool p c.serve.new.self (withdraws c.args.ticket c.args.now)) c.self.view_is (did g c)

pub returns-clause-stays : goal.returns-clause-stays
returns-clause-stays g c = (did g c).at_site.home ∙ ap (λ p. home_of p) c.self.view_is
