use Rattle.std.proofs.Common.{◌<◌, ◌≤◌, length, subst, rules, arith}
use Rattle.host_state.specs.Laws.{IsSoundAndQuiet}
use Rattle.cache.specs.AllHosts.{log_at, kept, terms}
use Rattle.cache.specs.Pools.{PoolShown, all_hosts}
use Rattle.cache.proofs.Pruning.{none_pruned, one_more_pruned, all_pruned, all_pruned_counted}
use Rattle.cache.proofs.Sums.{kept_fits, settled_at}
use Rattle.cache.proofs.hosts.Hosts.prune.Goals as goal

pub loop-site-init : goal.loop-site-init
loop-site-init g c =
    let inside = c.self.inside in
    let fits = kept_fits inside.bundles.items inside.budget c.self.invariant.parts c.kept-kept.ensures.within in
    none_pruned c.args.now c.args.max_age c.args.max_life c.args.self.now (subst (λ (p : PoolShown g.row.S.Denot). kept (all_hosts p) ≤ 65535) c.self.view_is fits)

next : goal.loop-site-preserved
next g c =
    let inside = c.self-in-loop-site.inside in
    let site = c.loop-site.site in
    let pool = c.loop-site.self in
    let done = c.prune_at-closed.ensures in
    let here : site < length inside.bundles.items = search rules in
    let there : site < length pool.hosts = subst (λ (p : PoolShown g.row.S.Denot). site < length p.hosts) c.self-in-loop-site.view_is here in
    let settings = terms inside.budget.limits in
    let settled : IsSoundAndQuiet settings (log_at (all_hosts pool) site) =
    subst (λ (p : PoolShown g.row.S.Denot). IsSoundAndQuiet settings (log_at (all_hosts p) site)) c.self-in-loop-site.view_is
    (settled_at inside.bundles.items inside.budget inside.lobby inside.pass inside.noted site c.self-in-loop-site.invariant here) in
    one_more_pruned c.args.now c.args.max_age c.args.max_life site c.loop-site.closed c.prune_at-closed.result c.args.self.now pool c.prune_at-closed.new.self settings c.loop-site.invariant there settled done.done done.count

pub overflow_add-closed : goal.overflow_add-closed
overflow_add-closed g c = omega (arith, (next g c).fits)

pub loop-site-smaller : goal.loop-site-smaller
loop-site-smaller g c =
    let done = c.prune_at-closed.ensures in
    omega (arith, (next g c).within, c.loop-site.invariant.stays.count, done.done.stays.count)

pub loop-site-preserved : goal.loop-site-preserved
loop-site-preserved g c = next g c

-- no site is left
over : (g : _) (c : goal.After-loop-site g) → length c.loop-site.self.hosts ≤ c.loop-site.site
over g c = rw (← c.self-in-loop-site.view_is) (search rules)

pub returns-clause-done : goal.returns-clause-done
returns-clause-done g c = all_pruned c.args.now c.args.max_age c.args.max_life c.loop-site.site c.loop-site.closed c.args.self.now c.loop-site.self c.loop-site.invariant (over g c)

pub returns-clause-count : goal.returns-clause-count
returns-clause-count g c =
    all_pruned_counted c.args.now c.args.max_age c.args.max_life c.loop-site.site c.loop-site.closed c.args.self.now c.loop-site.self c.loop-site.invariant (over g c)
