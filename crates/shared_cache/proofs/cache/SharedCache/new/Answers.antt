use Rattle.std.proofs.Common.{subst, ◌∙◌}
use Rattle.std.specs.List.{All}
use Rattle.shared_cache.specs.Names.{CacheNames}
use Rattle.shared_cache.specs.Locked.{IsHostUnder}
use Rattle.shared_cache.proofs.NewHosts.{all_under}
use Rattle.shared_cache.proofs.cache.SharedCache.new.Goals as goal

pub lock_hosts-requires-clause-under : goal.lock_hosts-requires-clause-under
lock_hosts-requires-clause-under g c =
    let plan = c.plan.inside in
    subst (λ (names : CacheNames). All (IsHostUnder names) plan.hosts.items) (c.plan.view_is ∙ c.requires)
    (all_under plan.budget plan.link plan.hosts.items c.plan.invariant.hosts_new)
