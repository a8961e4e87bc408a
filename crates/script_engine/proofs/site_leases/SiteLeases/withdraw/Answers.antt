use Rattle.std.proofs.Common.{sym, ◌∙◌}
use Rattle.cache.specs.Pools.{all_hosts}
use Rattle.script_engine.proofs.SpentAtSite.{others-at, leave-unticketed, ticket-at, ticket-here, ticket-valid, keeps-ticket-spent, leave-spent, leave-grow}
use Rattle.script_engine.proofs.site_leases.SiteLeases.withdraw.Goals as goal

pub withdraw_ticket-requires-clause-here : goal.withdraw_ticket-requires-clause-here
withdraw_ticket-requires-clause-here c =
    ticket-here c.args.pool.now c.is_at_rest.ensures.at_rest c.is_at_rest.ensures.places c.args.site c.requires.there c.args.self.now c.requires.keeps c.args.transfer c.in-Some.ticket (sym c.remove.ensures.value ∙ c.in-Some.is)

pub withdraw_ticket-requires-clause-own : goal.withdraw_ticket-requires-clause-own
withdraw_ticket-requires-clause-own c =
    ticket-valid c.args.pool.now c.is_at_rest.ensures.at_rest c.is_at_rest.ensures.places c.args.site c.requires.there c.args.self.now c.requires.keeps c.args.transfer c.in-Some.ticket (sym c.remove.ensures.value ∙ c.in-Some.is)

pub returns-in-Some-clause-answer : goal.returns-in-Some-clause-answer
returns-in-Some-clause-answer c =
    leave-spent c.args.pool.now c.is_at_rest.ensures.at_rest c.is_at_rest.ensures.places c.args.site c.requires.there c.args.self.now c.requires.keeps c.args.transfer c.in-Some.ticket (sym c.remove.ensures.value ∙ c.in-Some.is)
    c.withdraw_ticket.new.pool c.remove.new.self c.args.moment c.remove.ensures.entries c.withdraw_ticket.ensures.all

pub returns-in-Some-clause-grow : goal.returns-in-Some-clause-grow
returns-in-Some-clause-grow c =
    leave-grow c.args.transfer c.args.pool.now.limits c.in-Some.ticket.site (all_hosts c.args.pool.now) (all_hosts c.withdraw_ticket.new.pool) c.in-Some.ticket.wait.want.transfer c.args.moment c.withdraw_ticket.ensures.all

pub returns-in-Some-clause-keeps : goal.returns-in-Some-clause-keeps
returns-in-Some-clause-keeps c =
    keeps-ticket-spent c.args.pool.now c.is_at_rest.ensures.at_rest c.is_at_rest.ensures.places c.args.site c.requires.there c.args.self.now c.requires.keeps c.args.transfer c.in-Some.ticket (sym c.remove.ensures.value ∙ c.in-Some.is)
    c.withdraw_ticket.new.pool c.remove.new.self c.remove.ensures.updates.0 c.remove.ensures.ordered c.withdraw_ticket.ensures.spends c.withdraw_ticket.ensures.site

pub returns-in-Some-clause-others : goal.returns-in-Some-clause-others
returns-in-Some-clause-others c =
    let at = ticket-at c.args.pool.now c.is_at_rest.ensures.at_rest c.is_at_rest.ensures.places c.args.site c.requires.there c.args.self.now c.requires.keeps c.args.transfer c.in-Some.ticket (sym c.remove.ensures.value ∙ c.in-Some.is) in
    others-at c.args.pool.now c.withdraw_ticket.new.pool c.in-Some.ticket.site c.args.site at c.withdraw_ticket.ensures.others

pub returns-in-None-clause-answer : goal.returns-in-None-clause-answer
returns-in-None-clause-answer c =
    leave-unticketed c.args.pool.now c.is_at_rest.ensures.at_rest c.is_at_rest.ensures.places c.args.site c.requires.there c.args.self.now c.requires.keeps c.args.transfer c.args.moment c.remove.new.self (sym c.remove.ensures.value ∙ c.in-None.is) c.in-None.ensures.unchanged
