use Rattle.std.proofs.Common.{subst}
use Rattle.cache.specs.AllHosts.{AllHosts}
use Rattle.cache.specs.Pools.{all_hosts}
use Rattle.cache.specs.PoolCalls.{TakesBack}
use Rattle.cache.proofs.TwoTries.{kept_at_once}
use Rattle.cache.proofs.hosts.Hosts.give_back_in_any_case.Goals as goal

pub returns-in_default : goal.returns-in_default
returns-in_default g c =
    let lease = c.args.lease in
    let old = c.args.self.now in
    subst (λ (end : AllHosts). TakesBack end old c.try_to_keep.new.self lease) (kept_at_once old.limits lease.site lease.start.number c.args.facts c.args.now (all_hosts old) c.in_default.ensures.can_keep) c.in_default.ensures.done
