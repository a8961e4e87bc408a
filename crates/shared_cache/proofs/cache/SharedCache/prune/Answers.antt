use Rattle.std.proofs.Common.{◌≡◌, ℕ, ◌<◌, [], ◌∷◌, ◌++◌, length, Some, subst, rules}
use Rattle.bundle.specs.declared.did.Did.TheVariants.{Pruned}
use Rattle.bundle.specs.Passes.{tells}
use Rattle.shared_cache.proofs.PrunedHosts.{ArePrunedTo, none_pruned, one_more_pruned, all_pruned, closings_fit}
use Rattle.shared_cache.proofs.cache.SharedCache.prune.Goals as goal

pub loop-site-init : goal.loop-site-init
loop-site-init g c = ([], none_pruned g.N.Names.names c.args.now c.args.max_age c.args.max_life c.args.pass.now c.requires)

pub prune-closed-requires-clause-pass : goal.prune-closed-requires-clause-pass
prune-closed-requires-clause-pass g c = c.loop-site.invariant.1.pass_of

pub overflow_add-closed : goal.overflow_add-closed
overflow_add-closed g c =
    let few = closings_fit c.hosts-site-end.result c.loop-site.site c.loop-site.closed c.prune-closed.result c.loop-site.invariant.1.few (search rules) (search rules) c.prune-closed.ensures.few in
    search rules

pub loop-site-preserved : goal.loop-site-preserved
loop-site-preserved g c =
    let at = c.loop-site in
    let it = c.prune-closed in
    let there : at.site < length g.N.Names.names.hosts = search rules in
    let told : it.new.pass ≡ tells at.site (Some (Pruned c.args.now c.args.max_age c.args.max_life it.result)) at.pass = search rules in (
      at.invariant.0 ++ it.result ∷ [],
      one_more_pruned g.N.Names.names c.args.now c.args.max_age c.args.max_life c.args.pass.now at.site at.closed it.result at.invariant.0 at.pass it.new.pass at.invariant.1 there it.ensures.few told it.ensures.pass,
    )

pub returns-clause-pruned : goal.returns-clause-pruned
returns-clause-pruned g c =
    let at = c.loop-site in
    let names = g.N.Names.names in
    let ends : at.site ≡ length names.hosts = search rules in
    let all = subst (λ (n : ℕ). ArePrunedTo names c.args.now c.args.max_age c.args.max_life c.args.pass.now n at.closed at.invariant.0 at.pass) ends at.invariant.1 in
    (at.invariant.0, all.all, all_pruned names c.args.now c.args.max_age c.args.max_life c.args.pass.now at.closed at.invariant.0 at.pass all)

pub returns-clause-pass : goal.returns-clause-pass
returns-clause-pass g c = c.loop-site.invariant.1.pass_of
