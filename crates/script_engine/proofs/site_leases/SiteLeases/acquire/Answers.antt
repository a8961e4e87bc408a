use Rattle.std.proofs.Common.{◌≡◌, ℕ, List, false, ap, sym, subst, ◌∙◌, is_some, inr}
use Rattle.std.specs.Ordering.{nat_cmp}
use Rattle.std.specs.BTreeMap.{get, keys}
use Rattle.conn_log.specs.declared.entry.Want.{Want}
use Rattle.conn_log.specs.Connections.{is_among}
use Rattle.cache.specs.AllHosts.{AllHosts}
use Rattle.cache.specs.Calls.{reply_of, after_abandoning, after_withdrawing}
use Rattle.cache.specs.Pools.{host_at, all_hosts}
use Rattle.cache.proofs.Homes.{made_here, ticket_here}
use Rattle.cache.proofs.PoolCalls.{lease_as, ticket_as}
use Rattle.script_engine.specs.Meaning.{AtSite, with_ticket, grown}
use Rattle.script_engine.specs.Hosted.{kept_at}
use Rattle.script_engine.specs.Telling.{AllGrowAfter}
use Rattle.script_engine.proofs.Answering.{get-started, get-waited}
use Rattle.script_engine.proofs.Spending.{sound-at, ticketed}
use Rattle.script_engine.proofs.GrowthOfAll.{grow-on, acquired-grow}
use Rattle.script_engine.proofs.GivingUp.{GotLease, GotTicket, reply-starts, reply-waits, let-in, let-in-there, has-none, got-lease, got-ticket, got-own, got-spent, got-others, got-held, lease-others, got-wanted, got-unleased, got-other-tickets, ticket-others, started-due, ticketed-due, on-ok, on-err, on-both-ok, on-both-err, lease-grows, ticket-grows, get-unleased, get-unticketed}
use Rattle.script_engine.proofs.site_leases.SiteLeases.acquire.Goals as goal

abbrev at_site_with : AllHosts → List ℕ → AtSite
at_site_with all tickets = record { all = all; tickets = tickets }

pub keep_lease-requires-clause-here : goal.keep_lease-requires-clause-here
keep_lease-requires-clause-here c = made_here c.acquire.new.self c.in-Lease.lease (rw c.in-Lease.is at c.in_ok-lease.ensures.given).here

pub keep_lease-requires-clause-own : goal.keep_lease-requires-clause-own
keep_lease-requires-clause-own c =
    let pool = c.args.pool.now in
    let new = c.acquire.new.self in
    let told = c.in_ok-lease.ensures in
    let did = lease_as pool new c.args.site c.args.want c.args.moment c.in-Lease.lease (rw c.in-Lease.is at told.given) (rw c.in-Lease.is at told.done) in
    let got : GotLease pool new c.args.site c.args.want.transfer c.in-Lease.lease =
    got-lease pool new pool.limits c.args.site c.args.want c.args.moment did.at_site.host c.in-Lease.lease did.reply did.leased.gets in
    got-own pool new c.args.site c.args.want.transfer c.in-Lease.lease got

pub keep_lease-requires-clause-spent : goal.keep_lease-requires-clause-spent
keep_lease-requires-clause-spent c =
    let pool = c.args.pool.now in
    let new = c.acquire.new.self in
    let told = c.in_ok-lease.ensures in
    let did = lease_as pool new c.args.site c.args.want c.args.moment c.in-Lease.lease (rw c.in-Lease.is at told.given) (rw c.in-Lease.is at told.done) in
    let got : GotLease pool new c.args.site c.args.want.transfer c.in-Lease.lease =
    got-lease pool new pool.limits c.args.site c.args.want c.args.moment did.at_site.host c.in-Lease.lease did.reply did.leased.gets in
    got-spent pool new c.args.site c.args.want.transfer c.in-Lease.lease got

pub keep_lease-requires-clause-others : goal.keep_lease-requires-clause-others
keep_lease-requires-clause-others c =
    let pool = c.args.pool.now in
    let new = c.acquire.new.self in
    let told = c.in_ok-lease.ensures in
    let did = lease_as pool new c.args.site c.args.want c.args.moment c.in-Lease.lease (rw c.in-Lease.is at told.given) (rw c.in-Lease.is at told.done) in
    let rest = c.is_at_rest.ensures in
    let got : GotLease pool new c.args.site c.args.want.transfer c.in-Lease.lease =
    got-lease pool new pool.limits c.args.site c.args.want c.args.moment did.at_site.host c.in-Lease.lease did.reply did.leased.gets in
    let only = let-in pool c.args.site c.requires.there rest.places c.args.want c.in_ok-lease.field-0 told.due in
    let none = has-none pool c.args.site c.requires.there rest.places c.args.want (sound-at pool c.args.site c.requires.there rest.at_rest rest.places) only in
    got-others pool new c.args.site c.args.want.transfer c.in-Lease.lease got (get nat_cmp c.args.self.now.leases) c.requires.keeps.keeps.leases none.0

pub keep_ticket-requires-clause-here : goal.keep_ticket-requires-clause-here
keep_ticket-requires-clause-here c = ticket_here c.acquire.new.self c.in-Wait.ticket (rw c.in-Wait.is at c.in_ok-lease.ensures.given).here

pub keep_ticket-requires-clause-own : goal.keep_ticket-requires-clause-own
keep_ticket-requires-clause-own c =
    let pool = c.args.pool.now in
    let new = c.acquire.new.self in
    let told = c.in_ok-lease.ensures in
    let did = ticket_as pool new c.args.site c.args.want c.args.moment c.in-Wait.ticket (rw c.in-Wait.is at told.given) (rw c.in-Wait.is at told.done) in
    let got : GotTicket pool new c.args.site c.args.want c.in-Wait.ticket =
    got-ticket pool new pool.limits c.args.site c.args.want c.args.moment did.at_site.host c.in-Wait.ticket did.reply did.waits.gets in
    got-wanted pool new c.args.site c.args.want c.in-Wait.ticket got

pub keep_ticket-requires-clause-unleased : goal.keep_ticket-requires-clause-unleased
keep_ticket-requires-clause-unleased c =
    let pool = c.args.pool.now in
    let new = c.acquire.new.self in
    let told = c.in_ok-lease.ensures in
    let did = ticket_as pool new c.args.site c.args.want c.args.moment c.in-Wait.ticket (rw c.in-Wait.is at told.given) (rw c.in-Wait.is at told.done) in
    let rest = c.is_at_rest.ensures in
    let got : GotTicket pool new c.args.site c.args.want c.in-Wait.ticket =
    got-ticket pool new pool.limits c.args.site c.args.want c.args.moment did.at_site.host c.in-Wait.ticket did.reply did.waits.gets in
    let only = let-in pool c.args.site c.requires.there rest.places c.args.want c.in_ok-lease.field-0 told.due in
    let none = has-none pool c.args.site c.requires.there rest.places c.args.want (sound-at pool c.args.site c.requires.there rest.at_rest rest.places) only in
    got-unleased pool new c.args.site c.args.want c.in-Wait.ticket got none.0

pub keep_ticket-requires-clause-others : goal.keep_ticket-requires-clause-others
keep_ticket-requires-clause-others c =
    let pool = c.args.pool.now in
    let new = c.acquire.new.self in
    let told = c.in_ok-lease.ensures in
    let did = ticket_as pool new c.args.site c.args.want c.args.moment c.in-Wait.ticket (rw c.in-Wait.is at told.given) (rw c.in-Wait.is at told.done) in
    let rest = c.is_at_rest.ensures in
    let got : GotTicket pool new c.args.site c.args.want c.in-Wait.ticket =
    got-ticket pool new pool.limits c.args.site c.args.want c.args.moment did.at_site.host c.in-Wait.ticket did.reply did.waits.gets in
    let only = let-in pool c.args.site c.requires.there rest.places c.args.want c.in_ok-lease.field-0 told.due in
    let none = has-none pool c.args.site c.requires.there rest.places c.args.want (sound-at pool c.args.site c.requires.there rest.at_rest rest.places) only in
    got-other-tickets pool new c.args.site c.args.want c.in-Wait.ticket got (get nat_cmp c.args.self.now.tickets) c.requires.keeps.keeps.tickets none.1

pub returns-in-Lease-clause-ok : goal.returns-in-Lease-clause-ok
returns-in-Lease-clause-ok c =
    let pool = c.args.pool.now in
    let final = c.keep_lease.new.pool in
    let want = c.args.want in
    let new = c.acquire.new.self in
    let told = c.in_ok-lease.ensures in
    let did = lease_as pool new c.args.site c.args.want c.args.moment c.in-Lease.lease (rw c.in-Lease.is at told.given) (rw c.in-Lease.is at told.done) in
    let rest = c.is_at_rest.ensures in
    let reply = reply-starts c.args.site (reply_of pool.limits c.args.site want c.args.moment (all_hosts pool)) c.in-Lease.lease did.reply in
    let only = let-in pool c.args.site c.requires.there rest.places want c.in_ok-lease.field-0 told.due in
    let due = let-in-there pool c.args.site c.requires.there rest.places want only in
    on-ok c.keep_lease.result
    (λ same. get-started pool.limits c.args.site want c.args.moment (kept_at pool c.args.self.now) (all_hosts final) due (ap all_hosts same ∙ did.all) c.in-Lease.lease.start reply.1)
    c.keep_lease.ensures.ok

pub returns-in-Lease-clause-untold : goal.returns-in-Lease-clause-untold
returns-in-Lease-clause-untold c =
    let pool = c.args.pool.now in
    let final = c.keep_lease.new.pool in
    let want = c.args.want in
    let site = c.args.site in
    let lease = c.in-Lease.lease in
    let new = c.acquire.new.self in
    let told = c.in_ok-lease.ensures in
    let did = lease_as pool new c.args.site c.args.want c.args.moment c.in-Lease.lease (rw c.in-Lease.is at told.given) (rw c.in-Lease.is at told.done) in
    let rest = c.is_at_rest.ensures in
    let sound = sound-at pool site c.requires.there rest.at_rest rest.places in
    let reply = reply-starts site (reply_of pool.limits site want c.args.moment (all_hosts pool)) lease did.reply in
    let got : GotLease pool new site want.transfer lease =
    got-lease pool new pool.limits site want c.args.moment did.at_site.host lease did.reply did.leased.gets in
    let only = let-in pool site c.requires.there rest.places want c.in_ok-lease.field-0 told.due in
    let due = let-in-there pool site c.requires.there rest.places want only in
    let none = has-none pool site c.requires.there rest.places want sound only in
    let apart : is_among want.transfer (keys c.args.self.now.tickets) ≡ false = ticketed (host_at pool site) sound c.args.self.now.tickets.entries c.requires.keeps.keeps.tickets want.transfer ∙ ap is_some none.1 in
    let held = got-held pool new site want.transfer lease got in
    on-err c.keep_lease.result
    (λ abandoned. inr (inr (get-unleased pool.limits site want c.args.moment (kept_at pool c.args.self.now) (all_hosts new) (all_hosts final) due did.all apart lease.start reply.1 held
    (abandoned ∙ ap (λ limits. after_abandoning limits lease.site lease.start.number 0 (all_hosts new)) did.at_site.stays.limits ∙ ap (λ s. after_abandoning pool.limits s lease.start.number 0 (all_hosts new)) got.here))))
    c.keep_lease.ensures.abandoned

pub returns-in-Lease-clause-grow : goal.returns-in-Lease-clause-grow
returns-in-Lease-clause-grow c =
    let pool = c.args.pool.now in
    let new = c.acquire.new.self in
    let final = c.keep_lease.new.pool in
    let by = c.args.want.transfer in
    let told = c.in_ok-lease.ensures in
    let did = lease_as pool new c.args.site c.args.want c.args.moment c.in-Lease.lease (rw c.in-Lease.is at told.given) (rw c.in-Lease.is at told.done) in
    grow-on by (all_hosts pool) (all_hosts new) (all_hosts final)
    (subst (λ (all : AllHosts). AllGrowAfter by (all_hosts pool) all) (sym did.all) (acquired-grow by pool.limits c.args.site c.args.want c.args.moment (all_hosts pool)))
    (lease-grows c.keep_lease.result by new final c.keep_lease.ensures.ok new.limits c.in-Lease.lease.site c.in-Lease.lease.start.number c.keep_lease.ensures.abandoned)

pub returns-in-Lease-clause-keeps : goal.returns-in-Lease-clause-keeps
returns-in-Lease-clause-keeps c =
    let pool = c.args.pool.now in
    let final = c.keep_lease.new.pool in
    let want = c.args.want in
    let site = c.args.site in
    let lease = c.in-Lease.lease in
    let new = c.acquire.new.self in
    let told = c.in_ok-lease.ensures in
    let did = lease_as pool new c.args.site c.args.want c.args.moment c.in-Lease.lease (rw c.in-Lease.is at told.given) (rw c.in-Lease.is at told.done) in
    let rest = c.is_at_rest.ensures in
    let kept = c.keep_lease.ensures in
    let got : GotLease pool new site want.transfer lease =
    got-lease pool new pool.limits site want c.args.moment did.at_site.host lease did.reply did.leased.gets in
    let only = let-in pool site c.requires.there rest.places want c.in_ok-lease.field-0 told.due in
    let none = has-none pool site c.requires.there rest.places want (sound-at pool site c.requires.there rest.at_rest rest.places) only in
    started-due pool new final site want.transfer lease got kept.site c.args.self.now c.requires.keeps c.keep_lease.new.leases kept.leases kept.tickets kept.ordered none.1

pub returns-in-Lease-clause-others : goal.returns-in-Lease-clause-others
returns-in-Lease-clause-others c =
    let pool = c.args.pool.now in
    let new = c.acquire.new.self in
    let told = c.in_ok-lease.ensures in
    let did = lease_as pool new c.args.site c.args.want c.args.moment c.in-Lease.lease (rw c.in-Lease.is at told.given) (rw c.in-Lease.is at told.done) in
    let got : GotLease pool new c.args.site c.args.want.transfer c.in-Lease.lease =
    got-lease pool new pool.limits c.args.site c.args.want c.args.moment did.at_site.host c.in-Lease.lease did.reply did.leased.gets in
    lease-others pool new c.args.site c.args.want.transfer c.in-Lease.lease got c.keep_lease.new.pool c.keep_lease.ensures.site did.at_site.stays did.at_site.others c.keep_lease.ensures.others

pub returns-in-Wait-clause-ok : goal.returns-in-Wait-clause-ok
returns-in-Wait-clause-ok c =
    let pool = c.args.pool.now in
    let final = c.keep_ticket.new.pool in
    let want = c.args.want in
    let ticket = c.in-Wait.ticket in
    let new = c.acquire.new.self in
    let told = c.in_ok-lease.ensures in
    let did = ticket_as pool new c.args.site c.args.want c.args.moment c.in-Wait.ticket (rw c.in-Wait.is at told.given) (rw c.in-Wait.is at told.done) in
    let rest = c.is_at_rest.ensures in
    let got : GotTicket pool c.acquire.new.self c.args.site want ticket =
    got-ticket pool c.acquire.new.self pool.limits c.args.site want c.args.moment did.at_site.host ticket did.reply did.waits.gets in
    let reply = reply-waits (Unit {0}) c.args.site (reply_of pool.limits c.args.site want c.args.moment (all_hosts pool)) ticket did.reply in
    let only = let-in pool c.args.site c.requires.there rest.places want c.in_ok-lease.field-0 told.due in
    let due = let-in-there pool c.args.site c.requires.there rest.places want only in
    let before = kept_at pool c.args.self.now in
    on-both-ok c.keep_ticket.result
    (λ same put. get-waited pool.limits c.args.site want c.args.moment before (all_hosts final) due (ap all_hosts same ∙ did.all) ticket.wait reply.1
    ∙ ap (λ (tickets : List ℕ). grown before (record { all = all_hosts final; tickets = tickets })) (sym (put ∙ ap (λ (w : Want). with_ticket w.transfer before.tickets) got.own)))
    c.keep_ticket.ensures.ok c.keep_ticket.ensures.transfers

pub returns-in-Wait-clause-untold : goal.returns-in-Wait-clause-untold
returns-in-Wait-clause-untold c =
    let pool = c.args.pool.now in
    let final = c.keep_ticket.new.pool in
    let want = c.args.want in
    let site = c.args.site in
    let ticket = c.in-Wait.ticket in
    let new = c.acquire.new.self in
    let told = c.in_ok-lease.ensures in
    let did = ticket_as pool new c.args.site c.args.want c.args.moment c.in-Wait.ticket (rw c.in-Wait.is at told.given) (rw c.in-Wait.is at told.done) in
    let rest = c.is_at_rest.ensures in
    let sound = sound-at pool site c.requires.there rest.at_rest rest.places in
    let reply = reply-waits (Unit {0}) site (reply_of pool.limits site want c.args.moment (all_hosts pool)) ticket did.reply in
    let got : GotTicket pool new site want ticket =
    got-ticket pool new pool.limits site want c.args.moment did.at_site.host ticket did.reply did.waits.gets in
    let only = let-in pool site c.requires.there rest.places want c.in_ok-lease.field-0 told.due in
    let due = let-in-there pool site c.requires.there rest.places want only in
    let none = has-none pool site c.requires.there rest.places want sound only in
    let apart : is_among want.transfer (keys c.args.self.now.tickets) ≡ false = ticketed (host_at pool site) sound c.args.self.now.tickets.entries c.requires.keeps.keeps.tickets want.transfer ∙ ap is_some none.1 in
    on-both-err c.keep_ticket.result
    (λ back withdrawn. inr (inr (ap (at_site_with (all_hosts final)) back
    ∙ get-unticketed pool.limits site want c.args.moment (kept_at pool c.args.self.now) (all_hosts new) (all_hosts final) due did.all apart ticket.wait reply.1
    (withdrawn ∙ ap (λ limits. after_withdrawing limits ticket.site ticket.wait.want.transfer 0 (all_hosts new)) did.at_site.stays.limits
    ∙ ap (λ s. after_withdrawing pool.limits s ticket.wait.want.transfer 0 (all_hosts new)) got.here
    ∙ ap (λ (w : Want). after_withdrawing pool.limits site w.transfer 0 (all_hosts new)) got.own))))
    c.keep_ticket.ensures.put_back c.keep_ticket.ensures.withdrawn

pub returns-in-Wait-clause-grow : goal.returns-in-Wait-clause-grow
returns-in-Wait-clause-grow c =
    let pool = c.args.pool.now in
    let new = c.acquire.new.self in
    let final = c.keep_ticket.new.pool in
    let by = c.args.want.transfer in
    let told = c.in_ok-lease.ensures in
    let did = ticket_as pool new c.args.site c.args.want c.args.moment c.in-Wait.ticket (rw c.in-Wait.is at told.given) (rw c.in-Wait.is at told.done) in
    grow-on by (all_hosts pool) (all_hosts new) (all_hosts final)
    (subst (λ (all : AllHosts). AllGrowAfter by (all_hosts pool) all) (sym did.all) (acquired-grow by pool.limits c.args.site c.args.want c.args.moment (all_hosts pool)))
    (ticket-grows c.keep_ticket.result by new final c.keep_ticket.ensures.ok new.limits c.in-Wait.ticket.site c.in-Wait.ticket.wait.want.transfer c.keep_ticket.ensures.withdrawn)

pub returns-in-Wait-clause-keeps : goal.returns-in-Wait-clause-keeps
returns-in-Wait-clause-keeps c =
    let pool = c.args.pool.now in
    let final = c.keep_ticket.new.pool in
    let want = c.args.want in
    let site = c.args.site in
    let ticket = c.in-Wait.ticket in
    let new = c.acquire.new.self in
    let told = c.in_ok-lease.ensures in
    let did = ticket_as pool new c.args.site c.args.want c.args.moment c.in-Wait.ticket (rw c.in-Wait.is at told.given) (rw c.in-Wait.is at told.done) in
    let kept = c.keep_ticket.ensures in
    let got : GotTicket pool new site want ticket =
    got-ticket pool new pool.limits site want c.args.moment did.at_site.host ticket did.reply did.waits.gets in
    ticketed-due pool new final site want ticket got kept.site c.args.self.now c.requires.keeps c.keep_ticket.new.tickets kept.tickets kept.leases kept.ordered

pub returns-in-Wait-clause-others : goal.returns-in-Wait-clause-others
returns-in-Wait-clause-others c =
    let pool = c.args.pool.now in
    let new = c.acquire.new.self in
    let told = c.in_ok-lease.ensures in
    let did = ticket_as pool new c.args.site c.args.want c.args.moment c.in-Wait.ticket (rw c.in-Wait.is at told.given) (rw c.in-Wait.is at told.done) in
    let got : GotTicket pool new c.args.site c.args.want c.in-Wait.ticket =
    got-ticket pool new pool.limits c.args.site c.args.want c.args.moment did.at_site.host c.in-Wait.ticket did.reply did.waits.gets in
    ticket-others pool new c.args.site c.args.want c.in-Wait.ticket got c.keep_ticket.new.pool c.keep_ticket.ensures.site did.at_site.stays did.at_site.others c.keep_ticket.ensures.others
