use Rattle.script_engine.proofs.Tickets.{first-by-keys}
use Rattle.script_engine.proofs.site_leases.SiteLeases.is_ticket_first.Goals as goal

pub returns-in-Some-first_key_value : goal.returns-in-Some-first_key_value
returns-in-Some-first_key_value c =
    first-by-keys c.args.self.now.leases.entries c.args.self.now.tickets.entries (c.in-Some-first_key_value.holder.now, c.in-Some-first_key_value.field-0-1.now) (c.in-Some.waiter.now, c.in-Some.field-0-1.now)
    c.in-Some-first_key_value.ensures.first c.in-Some.ensures.first
