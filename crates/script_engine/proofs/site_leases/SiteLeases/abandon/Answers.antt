use Rattle.std.proofs.Common.{◌∙◌, sym}
use Rattle.cache.specs.Pools.{all_hosts}
use Rattle.script_engine.proofs.SpentAtSite.{others-at, drop-unleased, lease-at, made-here, keeps-lease-spent, drop-spent, drop-grow}
use Rattle.script_engine.proofs.site_leases.SiteLeases.abandon.Goals as goal

pub abandon-requires : goal.abandon-requires
abandon-requires c =
    record { here = made-here c.args.pool.now c.is_at_rest.ensures.at_rest c.is_at_rest.ensures.places c.args.site c.requires.there c.args.self.now c.requires.keeps c.args.transfer c.in-Some.lease (sym c.remove.ensures.value ∙ c.in-Some.is) }

pub returns-in-Some-clause-answer : goal.returns-in-Some-clause-answer
returns-in-Some-clause-answer c =
    drop-spent c.args.pool.now c.is_at_rest.ensures.at_rest c.is_at_rest.ensures.places c.args.site c.requires.there c.args.self.now c.requires.keeps c.args.transfer c.in-Some.lease (sym c.remove.ensures.value ∙ c.in-Some.is)
    c.abandon.new.self c.remove.new.self c.args.moment c.abandon.ensures.all

pub returns-in-Some-clause-grow : goal.returns-in-Some-clause-grow
returns-in-Some-clause-grow c =
    drop-grow c.args.transfer c.args.pool.now.limits c.in-Some.lease.site (all_hosts c.args.pool.now) (all_hosts c.abandon.new.self) c.in-Some.lease.start.number c.args.moment c.abandon.ensures.all

pub returns-in-Some-clause-keeps : goal.returns-in-Some-clause-keeps
returns-in-Some-clause-keeps c =
    keeps-lease-spent c.args.pool.now c.is_at_rest.ensures.at_rest c.is_at_rest.ensures.places c.args.site c.requires.there c.args.self.now c.requires.keeps c.args.transfer c.in-Some.lease (sym c.remove.ensures.value ∙ c.in-Some.is)
    c.abandon.new.self c.remove.new.self c.remove.ensures.updates.0 c.remove.ensures.ordered c.abandon.ensures.spends c.abandon.ensures.at_site.host

pub returns-in-Some-clause-others : goal.returns-in-Some-clause-others
returns-in-Some-clause-others c =
    let at = lease-at c.args.pool.now c.is_at_rest.ensures.at_rest c.is_at_rest.ensures.places c.args.site c.requires.there c.args.self.now c.requires.keeps c.args.transfer c.in-Some.lease (sym c.remove.ensures.value ∙ c.in-Some.is) in
    others-at c.args.pool.now c.abandon.new.self c.in-Some.lease.site c.args.site at c.abandon.ensures.at_site.others

pub returns-in-None-clause-answer : goal.returns-in-None-clause-answer
returns-in-None-clause-answer c =
    drop-unleased c.args.pool.now c.is_at_rest.ensures.at_rest c.is_at_rest.ensures.places c.args.site c.requires.there c.args.self.now c.requires.keeps c.args.transfer c.args.moment (sym c.remove.ensures.value ∙ c.in-None.is)
