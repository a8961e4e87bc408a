use Rattle.std.proofs.Common.{string_bytes, sym, subst}
use Rattle.cache.specs.Pools.{all_hosts}
use Rattle.script_engine.specs.Telling.{AllGrowAfter}
use Rattle.script_engine.proofs.GrowthOfAll.{pruned-grow}
use Rattle.script_engine.proofs.PooledSites.{all-due, none-cut, told-before, seen-pruned}
use Rattle.script_engine.proofs.hosts.PooledHosts.prune.Goals as goal

pub lines-requires-clause-told : goal.lines-requires-clause-told
lines-requires-clause-told c =
    let old = all_hosts c.self.inside.pool in
    let new = all_hosts c.prune.new.self in
    let grow : AllGrowAfter 0 old new = subst (AllGrowAfter 0 old) (sym c.prune.ensures.done.all) (pruned-grow 0 c.self.inside.pool.limits c.args.moment c.args.max_age c.args.max_life old) in
    told-before 0 old new c.self.inside.told.items c.self.invariant.all_told grow

pub lines-requires-clause-uncut : goal.lines-requires-clause-uncut
lines-requires-clause-uncut c =
    none-cut c.prune.new.self c.self.inside.kept.items (all-due c.self.inside.pool c.prune.new.self c.self.inside.kept.items c.self.invariant.due_kept c.prune.ensures.done.keeps c.prune.ensures.done.stays)

pub invariant_of-self : goal.invariant_of-self
invariant_of-self c = record {
  due_kept = all-due c.self.inside.pool c.prune.new.self c.self.inside.kept.items c.self.invariant.due_kept c.prune.ensures.done.keeps c.prune.ensures.done.stays;
  all_told = c.lines.ensures.told;
}

pub returns : goal.returns
returns c =
    seen-pruned c.self.inside.pool c.self.inside.kept.items c.self.inside.told.items c.self.invariant c.args.self.now c.self.view_is string_bytes
    c.args.max_age c.args.max_life c.args.moment c.lines.result c.prune.new.self c.prune.ensures.done.stays c.prune.ensures.done.all c.lines.ensures.text
