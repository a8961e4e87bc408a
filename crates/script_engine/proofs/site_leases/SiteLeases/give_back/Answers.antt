use Rattle.std.proofs.Common.{◌∙◌, sym, ap}
use Rattle.persistence.specs.declared.facts.Facts.{Facts}
use Rattle.cache.specs.Calls.{after_giving_back}
use Rattle.cache.specs.Pools.{all_hosts}
use Rattle.script_engine.proofs.SpentAtSite.{others-at, back-unleased, lease-at, made-here, keeps-lease-spent, back-spent, back-grow}
use Rattle.script_engine.proofs.site_leases.SiteLeases.give_back.Goals as goal

pub give_back-requires-clause-here : goal.give_back-requires-clause-here
give_back-requires-clause-here c =
    made-here c.args.pool.now c.is_at_rest.ensures.at_rest c.is_at_rest.ensures.places c.args.site c.requires.there c.args.self.now c.requires.keeps c.args.transfer c.in-Some.lease (sym c.remove.ensures.value ∙ c.in-Some.is)

pub returns-in-Some-clause-answer : goal.returns-in-Some-clause-answer
returns-in-Some-clause-answer c =
    let facts = ap (λ (f : Facts). after_giving_back c.args.pool.now.limits c.in-Some.lease.site c.in-Some.lease.start.number f c.args.moment (all_hosts c.args.pool.now)) c.facts_of_ending.ensures in
    back-spent c.args.pool.now c.is_at_rest.ensures.at_rest c.is_at_rest.ensures.places c.args.site c.requires.there c.args.self.now c.requires.keeps c.args.transfer c.in-Some.lease (sym c.remove.ensures.value ∙ c.in-Some.is)
    c.give_back.new.self c.remove.new.self c.args.ending c.args.moment (c.give_back.ensures.all ∙ facts)

pub returns-in-Some-clause-grow : goal.returns-in-Some-clause-grow
returns-in-Some-clause-grow c =
    let facts = ap (λ (f : Facts). after_giving_back c.args.pool.now.limits c.in-Some.lease.site c.in-Some.lease.start.number f c.args.moment (all_hosts c.args.pool.now)) c.facts_of_ending.ensures in
    back-grow c.args.pool.now c.is_at_rest.ensures.at_rest c.is_at_rest.ensures.places c.args.site c.requires.there c.args.self.now c.requires.keeps c.args.transfer c.in-Some.lease (sym c.remove.ensures.value ∙ c.in-Some.is)
    c.give_back.new.self c.remove.new.self c.args.ending c.args.moment (c.give_back.ensures.all ∙ facts)

pub returns-in-Some-clause-keeps : goal.returns-in-Some-clause-keeps
returns-in-Some-clause-keeps c =
    keeps-lease-spent c.args.pool.now c.is_at_rest.ensures.at_rest c.is_at_rest.ensures.places c.args.site c.requires.there c.args.self.now c.requires.keeps c.args.transfer c.in-Some.lease (sym c.remove.ensures.value ∙ c.in-Some.is)
    c.give_back.new.self c.remove.new.self c.remove.ensures.updates.0 c.remove.ensures.ordered c.give_back.ensures.spends c.give_back.ensures.at_site.host

pub returns-in-Some-clause-others : goal.returns-in-Some-clause-others
returns-in-Some-clause-others c =
    let at = lease-at c.args.pool.now c.is_at_rest.ensures.at_rest c.is_at_rest.ensures.places c.args.site c.requires.there c.args.self.now c.requires.keeps c.args.transfer c.in-Some.lease (sym c.remove.ensures.value ∙ c.in-Some.is) in
    others-at c.args.pool.now c.give_back.new.self c.in-Some.lease.site c.args.site at c.give_back.ensures.at_site.others

pub returns-in-None-clause-answer : goal.returns-in-None-clause-answer
returns-in-None-clause-answer c =
    back-unleased c.args.pool.now c.is_at_rest.ensures.at_rest c.is_at_rest.ensures.places c.args.site c.requires.there c.args.self.now c.requires.keeps c.args.transfer c.args.ending c.args.moment (sym c.remove.ensures.value ∙ c.in-None.is)
