use Rattle.std.proofs.Common.{◌≡◌, ℕ, List, true, false, cond, refl, ap, sym, subst, ◌∙◌, string_bytes, Some, None, is_some, inr}
use Rattle.std.specs.Ordering.{nat_cmp}
use Rattle.std.specs.Map.{keys_of}
use Rattle.std.specs.BTreeMap.{get, keys}
use Rattle.conn_log.specs.Connections.{is_among, held_number}
use Rattle.cache.specs.AllHosts.{AllHosts, log_at}
use Rattle.cache.specs.Calls.{after_abandoning, after_withdrawing}
use Rattle.cache.specs.Pools.{PoolShown, host_at, all_hosts, KeepsOtherHosts}
use Rattle.cache.proofs.PoolCalls.{grant_as, still_as}
use Rattle.script_text.specs.declared.command.Action.TheVariants as actions
use Rattle.script_text.specs.Printing.{claimed_line, still_line}
use Rattle.script_engine.specs.Meaning.{AtSite, replied, with_ticket, without_ticket}
use Rattle.script_engine.specs.Hosted.{Gives, kept_at, tickets_of, wanted}
use Rattle.script_engine.proofs.Tickets.{at-key, among-keys, keys-removed, put-back}
use Rattle.script_engine.proofs.Leases.{itself, kept-removed, ticket-no-lease}
use Rattle.script_engine.proofs.Spending.{sound-at, ticket-made}
use Rattle.script_engine.proofs.Answering.{gives-answer, claim-stranger, claim-still, claim-granted}
use Rattle.script_engine.proofs.GivingUp.{ticket-kept, kept-among, granted-lease, got-others, got-held, lease-stays, lease-others, claimed-due, still-waits, still-here, still-unleased, still-others, still-held, still-others-keep, still-due, claim-unleased, claim-unticketed, no-stray}
use Rattle.script_engine.proofs.site_leases.SiteLeases.claim.Goals as goal

-- at a site so many transfers have tickets
abbrev with_tickets : AllHosts → List ℕ → AtSite
with_tickets all tickets = record { all = all; tickets = tickets }

pub returns-in_default-clause-answer : goal.returns-in_default-clause-answer
returns-in_default-clause-answer c =
    let pool = c.args.pool.now in
    let site = c.args.site in
    let transfer = c.args.transfer in
    let old = kept_at pool c.args.self.now in
    let among : is_among transfer old.tickets ≡ false = among-keys c.args.self.now.tickets.entries transfer ∙ ap is_some (sym c.remove.ensures.value ∙ c.in_default.is) in
    let same : keys c.remove.new.self ≡ old.tickets = ap keys_of c.in_default.ensures.unchanged in
    subst (λ (tickets : List ℕ). Gives string_bytes pool.limits site old (actions.Claim transfer) c.reply.result (with_tickets (all_hosts pool) tickets)) (sym same)
    (gives-answer string_bytes pool.limits site old (actions.Claim transfer) old _ c.reply.result (claim-stranger site transfer old among) c.reply.ensures)

pub claim-requires : goal.claim-requires
claim-requires c =
    let pool = c.args.pool.now in
    let site = c.args.site in
    let rest = c.is_at_rest.ensures in
    let due = ticket-kept pool site c.requires.there rest.at_rest rest.places c.args.self.now c.requires.keeps c.args.transfer c.in-Some.ticket (sym c.in-Some.is ∙ c.remove.ensures.value) in
    record { here = ticket-made pool site c.args.transfer c.in-Some.ticket c.requires.there (rest.places site c.requires.there).place due }

pub keep_lease-requires-clause-others : goal.keep_lease-requires-clause-others
keep_lease-requires-clause-others c =
    let pool = c.args.pool.now in
    let site = c.args.site in
    let rest = c.is_at_rest.ensures in
    let due = ticket-kept pool site c.requires.there rest.at_rest rest.places c.args.self.now c.requires.keeps c.args.transfer c.in-Some.ticket (sym c.in-Some.is ∙ c.remove.ensures.value) in
    let new = c.claim.new.self in
    let lease = c.in-Ok-Lease.lease in
    let did = grant_as pool new c.in-Some.ticket lease (rw c.in-Ok-Lease.field-0-is at c.in-Ok-Lease.ensures.claimed) (rw c.in-Ok-Lease.field-0-is at c.in-Ok-Lease.ensures.done) in
    let got = granted-lease pool new site c.args.transfer c.in-Some.ticket lease (rest.places site c.requires.there).place due did.granted did.wanted did.leased.gets did.at_site.host in
    got-others pool new site c.args.transfer lease got (get nat_cmp c.args.self.now.leases) c.requires.keeps.keeps.leases (ticket-no-lease (host_at pool site) (sound-at pool site c.requires.there rest.at_rest rest.places) c.args.transfer c.in-Some.ticket.wait.want due.wants)

pub keep_ticket-requires-clause-here : goal.keep_ticket-requires-clause-here
keep_ticket-requires-clause-here c =
    let pool = c.args.pool.now in
    let site = c.args.site in
    let rest = c.is_at_rest.ensures in
    let due = ticket-kept pool site c.requires.there rest.at_rest rest.places c.args.self.now c.requires.keeps c.args.transfer c.in-Some.ticket (sym c.in-Some.is ∙ c.remove.ensures.value) in
    let still = still_as pool c.claim.new.self c.in-Some.ticket c.in-Ok-Still.ticket (rw c.in-Ok-Still.field-0-is at c.in-Ok-Still.ensures.claimed) (rw c.in-Ok-Still.field-0-is at c.in-Ok-Still.ensures.done) in
    still-here pool c.claim.new.self c.in-Some.ticket c.in-Ok-Still.ticket (ticket-made pool site c.args.transfer c.in-Some.ticket c.requires.there (rest.places site c.requires.there).place due) still.1 still.2

pub keep_ticket-requires-clause-unleased : goal.keep_ticket-requires-clause-unleased
keep_ticket-requires-clause-unleased c =
    let pool = c.args.pool.now in
    let site = c.args.site in
    let rest = c.is_at_rest.ensures in
    let due = ticket-kept pool site c.requires.there rest.at_rest rest.places c.args.self.now c.requires.keeps c.args.transfer c.in-Some.ticket (sym c.in-Some.is ∙ c.remove.ensures.value) in
    let new = c.claim.new.self in
    let again = c.in-Ok-Still.ticket in
    let still = still-waits pool new site c.args.transfer c.in-Some.ticket again (rest.places site c.requires.there).place due (still_as pool new c.in-Some.ticket again (rw c.in-Ok-Still.field-0-is at c.in-Ok-Still.ensures.claimed) (rw c.in-Ok-Still.field-0-is at c.in-Ok-Still.ensures.done)) in
    still-unleased pool new site c.args.transfer again still (sound-at pool site c.requires.there rest.at_rest rest.places)

pub keep_ticket-requires-clause-others : goal.keep_ticket-requires-clause-others
keep_ticket-requires-clause-others c =
    let pool = c.args.pool.now in
    let site = c.args.site in
    let rest = c.is_at_rest.ensures in
    let due = ticket-kept pool site c.requires.there rest.at_rest rest.places c.args.self.now c.requires.keeps c.args.transfer c.in-Some.ticket (sym c.in-Some.is ∙ c.remove.ensures.value) in
    let new = c.claim.new.self in
    let again = c.in-Ok-Still.ticket in
    let still = still-waits pool new site c.args.transfer c.in-Some.ticket again (rest.places site c.requires.there).place due (still_as pool new c.in-Some.ticket again (rw c.in-Ok-Still.field-0-is at c.in-Ok-Still.ensures.claimed) (rw c.in-Ok-Still.field-0-is at c.in-Ok-Still.ensures.done)) in
    let after = get nat_cmp c.remove.new.self in
    still-others pool new site c.args.transfer again still after
    (kept-removed wanted c.args.transfer (tickets_of (host_at pool site)) (get nat_cmp c.args.self.now.tickets) after c.requires.keeps.keeps.tickets c.remove.ensures.updates.0)

pub returns-in-Ok-clause-answer : goal.returns-in-Ok-clause-answer
returns-in-Ok-clause-answer c =
    let pool = c.args.pool.now in
    let site = c.args.site in
    let rest = c.is_at_rest.ensures in
    let due = ticket-kept pool site c.requires.there rest.at_rest rest.places c.args.self.now c.requires.keeps c.args.transfer c.in-Some.ticket (sym c.in-Some.is ∙ c.remove.ensures.value) in
    let new = c.claim.new.self in
    let lease = c.in-Ok-Lease.lease in
    let did = grant_as pool new c.in-Some.ticket lease (rw c.in-Ok-Lease.field-0-is at c.in-Ok-Lease.ensures.claimed) (rw c.in-Ok-Lease.field-0-is at c.in-Ok-Lease.ensures.done) in
    let got = granted-lease pool new site c.args.transfer c.in-Some.ticket lease (rest.places site c.requires.there).place due did.granted did.wanted did.leased.gets did.at_site.host in
    let transfer = c.args.transfer in
    let old = kept_at pool c.args.self.now in
    let others = keys c.remove.new.self in
    let among : is_among transfer old.tickets ≡ true =
    kept-among pool site c.requires.there rest.at_rest rest.places c.args.self.now c.requires.keeps transfer c.in-Some.ticket (sym c.in-Some.is ∙ c.remove.ensures.value) in
    let left : others ≡ without_ticket transfer old.tickets = ap keys_of c.remove.ensures.entries ∙ keys-removed c.args.self.now.tickets.entries transfer in
    let number = lease.start.number in
    let held : held_number (log_at old.all site) transfer ≡ Some number = ap (λ (all : AllHosts). held_number (log_at all site) transfer) (sym did.all) ∙ got-held pool new site transfer lease got in
    let final = c.keep_lease.new.pool in
    let same : all_hosts final ≡ old.all = ap all_hosts c.in-Ok.ensures.ok ∙ did.all in
    let line : claimed_line site number ≡ claimed_line site c.number-number.result = ap (claimed_line site) (sym c.number-number.ensures) in
    gives-answer string_bytes pool.limits site old (actions.Claim transfer) (with_tickets (all_hosts final) others) (claimed_line site c.number-number.result) c.claimed.result
    (claim-granted site transfer old number among held
    ∙ ap (λ (tickets : List ℕ). replied (with_tickets old.all tickets) (claimed_line site number)) (sym left)
    ∙ ap (λ (all : AllHosts). replied (with_tickets all others) (claimed_line site number)) (sym same)
    ∙ ap (replied (with_tickets (all_hosts final) others)) line)
    c.claimed.ensures

pub returns-in-Ok-clause-site : goal.returns-in-Ok-clause-site
returns-in-Ok-clause-site c =
    let pool = c.args.pool.now in
    let site = c.args.site in
    let rest = c.is_at_rest.ensures in
    let due = ticket-kept pool site c.requires.there rest.at_rest rest.places c.args.self.now c.requires.keeps c.args.transfer c.in-Some.ticket (sym c.in-Some.is ∙ c.remove.ensures.value) in
    let new = c.claim.new.self in
    let lease = c.in-Ok-Lease.lease in
    let did = grant_as pool new c.in-Some.ticket lease (rw c.in-Ok-Lease.field-0-is at c.in-Ok-Lease.ensures.claimed) (rw c.in-Ok-Lease.field-0-is at c.in-Ok-Lease.ensures.done) in
    let got = granted-lease pool new site c.args.transfer c.in-Some.ticket lease (rest.places site c.requires.there).place due did.granted did.wanted did.leased.gets did.at_site.host in
    lease-stays pool new site c.args.transfer lease got c.keep_lease.new.pool c.keep_lease.ensures.site

pub returns-in-Ok-clause-keeps : goal.returns-in-Ok-clause-keeps
returns-in-Ok-clause-keeps c =
    let pool = c.args.pool.now in
    let site = c.args.site in
    let rest = c.is_at_rest.ensures in
    let due = ticket-kept pool site c.requires.there rest.at_rest rest.places c.args.self.now c.requires.keeps c.args.transfer c.in-Some.ticket (sym c.in-Some.is ∙ c.remove.ensures.value) in
    let new = c.claim.new.self in
    let lease = c.in-Ok-Lease.lease in
    let did = grant_as pool new c.in-Some.ticket lease (rw c.in-Ok-Lease.field-0-is at c.in-Ok-Lease.ensures.claimed) (rw c.in-Ok-Lease.field-0-is at c.in-Ok-Lease.ensures.done) in
    let got = granted-lease pool new site c.args.transfer c.in-Some.ticket lease (rest.places site c.requires.there).place due did.granted did.wanted did.leased.gets did.at_site.host in
    let kept = c.keep_lease.ensures in
    claimed-due pool new c.keep_lease.new.pool site c.args.transfer lease got kept.site c.args.self.now c.requires.keeps c.keep_lease.new.leases kept.leases kept.tickets kept.ordered
    c.remove.new.self c.remove.ensures.updates.0 c.remove.ensures.ordered

pub returns-in-Ok-clause-others : goal.returns-in-Ok-clause-others
returns-in-Ok-clause-others c =
    let pool = c.args.pool.now in
    let site = c.args.site in
    let rest = c.is_at_rest.ensures in
    let due = ticket-kept pool site c.requires.there rest.at_rest rest.places c.args.self.now c.requires.keeps c.args.transfer c.in-Some.ticket (sym c.in-Some.is ∙ c.remove.ensures.value) in
    let new = c.claim.new.self in
    let lease = c.in-Ok-Lease.lease in
    let did = grant_as pool new c.in-Some.ticket lease (rw c.in-Ok-Lease.field-0-is at c.in-Ok-Lease.ensures.claimed) (rw c.in-Ok-Lease.field-0-is at c.in-Ok-Lease.ensures.done) in
    let got = granted-lease pool new site c.args.transfer c.in-Some.ticket lease (rest.places site c.requires.there).place due did.granted did.wanted did.leased.gets did.at_site.host in
    lease-others pool new site c.args.transfer lease got c.keep_lease.new.pool c.keep_lease.ensures.site did.at_site.stays (subst (λ (s : ℕ). KeepsOtherHosts s pool new) (due.site ∙ (rest.places site c.requires.there).place) did.at_site.others) c.keep_lease.ensures.others

pub returns-in-Err-keep_lease-clause-answer : goal.returns-in-Err-keep_lease-clause-answer
returns-in-Err-keep_lease-clause-answer c =
    let pool = c.args.pool.now in
    let site = c.args.site in
    let rest = c.is_at_rest.ensures in
    let due = ticket-kept pool site c.requires.there rest.at_rest rest.places c.args.self.now c.requires.keeps c.args.transfer c.in-Some.ticket (sym c.in-Some.is ∙ c.remove.ensures.value) in
    let new = c.claim.new.self in
    let lease = c.in-Ok-Lease.lease in
    let did = grant_as pool new c.in-Some.ticket lease (rw c.in-Ok-Lease.field-0-is at c.in-Ok-Lease.ensures.claimed) (rw c.in-Ok-Lease.field-0-is at c.in-Ok-Lease.ensures.done) in
    let got = granted-lease pool new site c.args.transfer c.in-Some.ticket lease (rest.places site c.requires.there).place due did.granted did.wanted did.leased.gets did.at_site.host in
    let transfer = c.args.transfer in
    let old = kept_at pool c.args.self.now in
    let others = keys c.remove.new.self in
    let among : is_among transfer old.tickets ≡ true =
    kept-among pool site c.requires.there rest.at_rest rest.places c.args.self.now c.requires.keeps transfer c.in-Some.ticket (sym c.in-Some.is ∙ c.remove.ensures.value) in
    let left : others ≡ without_ticket transfer old.tickets = ap keys_of c.remove.ensures.entries ∙ keys-removed c.args.self.now.tickets.entries transfer in
    let number = lease.start.number in
    let held : held_number (log_at old.all site) transfer ≡ Some number = ap (λ (all : AllHosts). held_number (log_at all site) transfer) (sym did.all) ∙ got-held pool new site transfer lease got in
    let final = c.keep_lease.new.pool in
    let apart : is_among transfer others ≡ false =
    among-keys c.remove.new.self.entries transfer ∙ ap is_some (c.remove.ensures.updates.0 transfer)
    ∙ ap (λ b. is_some (cond b None (get nat_cmp c.args.self.now.tickets transfer))) (at-key transfer transfer ∙ itself transfer) in
    let abandoned : all_hosts final ≡ after_abandoning pool.limits site number 0 old.all =
    c.in-Err-keep_lease.ensures.abandoned ∙ ap (λ limits. after_abandoning limits lease.site number 0 (all_hosts new)) did.at_site.stays.limits
    ∙ ap (λ s. after_abandoning pool.limits s number 0 (all_hosts new)) got.here ∙ ap (after_abandoning pool.limits site number 0) did.all in
    (refl, inr (claim-unleased pool.limits site transfer old others (all_hosts final) among left number held apart abandoned))

pub returns-in-Err-keep_lease-clause-site : goal.returns-in-Err-keep_lease-clause-site
returns-in-Err-keep_lease-clause-site c =
    let pool = c.args.pool.now in
    let site = c.args.site in
    let rest = c.is_at_rest.ensures in
    let due = ticket-kept pool site c.requires.there rest.at_rest rest.places c.args.self.now c.requires.keeps c.args.transfer c.in-Some.ticket (sym c.in-Some.is ∙ c.remove.ensures.value) in
    let new = c.claim.new.self in
    let lease = c.in-Ok-Lease.lease in
    let did = grant_as pool new c.in-Some.ticket lease (rw c.in-Ok-Lease.field-0-is at c.in-Ok-Lease.ensures.claimed) (rw c.in-Ok-Lease.field-0-is at c.in-Ok-Lease.ensures.done) in
    let got = granted-lease pool new site c.args.transfer c.in-Some.ticket lease (rest.places site c.requires.there).place due did.granted did.wanted did.leased.gets did.at_site.host in
    lease-stays pool new site c.args.transfer lease got c.keep_lease.new.pool c.keep_lease.ensures.site

pub returns-in-Err-keep_lease-clause-keeps : goal.returns-in-Err-keep_lease-clause-keeps
returns-in-Err-keep_lease-clause-keeps c =
    let pool = c.args.pool.now in
    let site = c.args.site in
    let rest = c.is_at_rest.ensures in
    let due = ticket-kept pool site c.requires.there rest.at_rest rest.places c.args.self.now c.requires.keeps c.args.transfer c.in-Some.ticket (sym c.in-Some.is ∙ c.remove.ensures.value) in
    let new = c.claim.new.self in
    let lease = c.in-Ok-Lease.lease in
    let did = grant_as pool new c.in-Some.ticket lease (rw c.in-Ok-Lease.field-0-is at c.in-Ok-Lease.ensures.claimed) (rw c.in-Ok-Lease.field-0-is at c.in-Ok-Lease.ensures.done) in
    let got = granted-lease pool new site c.args.transfer c.in-Some.ticket lease (rest.places site c.requires.there).place due did.granted did.wanted did.leased.gets did.at_site.host in
    let kept = c.keep_lease.ensures in
    claimed-due pool new c.keep_lease.new.pool site c.args.transfer lease got kept.site c.args.self.now c.requires.keeps c.keep_lease.new.leases kept.leases kept.tickets kept.ordered
    c.remove.new.self c.remove.ensures.updates.0 c.remove.ensures.ordered

pub returns-in-Err-keep_lease-clause-others : goal.returns-in-Err-keep_lease-clause-others
returns-in-Err-keep_lease-clause-others c =
    let pool = c.args.pool.now in
    let site = c.args.site in
    let rest = c.is_at_rest.ensures in
    let due = ticket-kept pool site c.requires.there rest.at_rest rest.places c.args.self.now c.requires.keeps c.args.transfer c.in-Some.ticket (sym c.in-Some.is ∙ c.remove.ensures.value) in
    let new = c.claim.new.self in
    let lease = c.in-Ok-Lease.lease in
    let did = grant_as pool new c.in-Some.ticket lease (rw c.in-Ok-Lease.field-0-is at c.in-Ok-Lease.ensures.claimed) (rw c.in-Ok-Lease.field-0-is at c.in-Ok-Lease.ensures.done) in
    let got = granted-lease pool new site c.args.transfer c.in-Some.ticket lease (rest.places site c.requires.there).place due did.granted did.wanted did.leased.gets did.at_site.host in
    lease-others pool new site c.args.transfer lease got c.keep_lease.new.pool c.keep_lease.ensures.site did.at_site.stays (subst (λ (s : ℕ). KeepsOtherHosts s pool new) (due.site ∙ (rest.places site c.requires.there).place) did.at_site.others) c.keep_lease.ensures.others

pub returns-in-Ok-keep_ticket-clause-answer : goal.returns-in-Ok-keep_ticket-clause-answer
returns-in-Ok-keep_ticket-clause-answer c =
    let pool = c.args.pool.now in
    let site = c.args.site in
    let rest = c.is_at_rest.ensures in
    let due = ticket-kept pool site c.requires.there rest.at_rest rest.places c.args.self.now c.requires.keeps c.args.transfer c.in-Some.ticket (sym c.in-Some.is ∙ c.remove.ensures.value) in
    let new = c.claim.new.self in
    let again = c.in-Ok-Still.ticket in
    let still = still-waits pool new site c.args.transfer c.in-Some.ticket again (rest.places site c.requires.there).place due (still_as pool new c.in-Some.ticket again (rw c.in-Ok-Still.field-0-is at c.in-Ok-Still.ensures.claimed) (rw c.in-Ok-Still.field-0-is at c.in-Ok-Still.ensures.done)) in
    let transfer = c.args.transfer in
    let old = kept_at pool c.args.self.now in
    let others = keys c.remove.new.self in
    let among : is_among transfer old.tickets ≡ true =
    kept-among pool site c.requires.there rest.at_rest rest.places c.args.self.now c.requires.keeps transfer c.in-Some.ticket (sym c.in-Some.is ∙ c.remove.ensures.value) in
    let left : others ≡ without_ticket transfer old.tickets = ap keys_of c.remove.ensures.entries ∙ keys-removed c.args.self.now.tickets.entries transfer in
    let final = c.keep_ticket.new.pool in
    let same : all_hosts final ≡ old.all = ap all_hosts (c.in-Ok-keep_ticket.ensures.ok ∙ still.same) in
    let put : keys c.keep_ticket.new.tickets ≡ old.tickets =
    c.in-Ok-keep_ticket.ensures.transfers ∙ ap (λ (t : ℕ). with_ticket t others) still.own ∙ ap (with_ticket transfer) left ∙ put-back transfer old.tickets c.requires.keeps.waiters among in
    gives-answer string_bytes pool.limits site old (actions.Claim transfer) (with_tickets (all_hosts final) (keys c.keep_ticket.new.tickets)) still_line c.still_waiting.result
    (claim-still site transfer old among (still-held pool new site transfer again still (sound-at pool site c.requires.there rest.at_rest rest.places))
    ∙ ap (λ (all : AllHosts). replied (with_tickets all old.tickets) still_line) (sym same)
    ∙ ap (λ (tickets : List ℕ). replied (with_tickets (all_hosts final) tickets) still_line) (sym put))
    c.still_waiting.ensures

pub returns-in-Ok-keep_ticket-clause-keeps : goal.returns-in-Ok-keep_ticket-clause-keeps
returns-in-Ok-keep_ticket-clause-keeps c =
    let pool = c.args.pool.now in
    let site = c.args.site in
    let rest = c.is_at_rest.ensures in
    let due = ticket-kept pool site c.requires.there rest.at_rest rest.places c.args.self.now c.requires.keeps c.args.transfer c.in-Some.ticket (sym c.in-Some.is ∙ c.remove.ensures.value) in
    let new = c.claim.new.self in
    let again = c.in-Ok-Still.ticket in
    let still = still-waits pool new site c.args.transfer c.in-Some.ticket again (rest.places site c.requires.there).place due (still_as pool new c.in-Some.ticket again (rw c.in-Ok-Still.field-0-is at c.in-Ok-Still.ensures.claimed) (rw c.in-Ok-Still.field-0-is at c.in-Ok-Still.ensures.done)) in
    let kept = c.keep_ticket.ensures in
    still-due pool new c.keep_ticket.new.pool site c.args.transfer again still kept.site c.args.self.now c.requires.keeps c.keep_ticket.new.tickets kept.tickets kept.leases kept.ordered

pub returns-in-Err-keep_ticket-clause-keeps : goal.returns-in-Err-keep_ticket-clause-keeps
returns-in-Err-keep_ticket-clause-keeps c =
    let pool = c.args.pool.now in
    let site = c.args.site in
    let rest = c.is_at_rest.ensures in
    let due = ticket-kept pool site c.requires.there rest.at_rest rest.places c.args.self.now c.requires.keeps c.args.transfer c.in-Some.ticket (sym c.in-Some.is ∙ c.remove.ensures.value) in
    let new = c.claim.new.self in
    let again = c.in-Ok-Still.ticket in
    let still = still-waits pool new site c.args.transfer c.in-Some.ticket again (rest.places site c.requires.there).place due (still_as pool new c.in-Some.ticket again (rw c.in-Ok-Still.field-0-is at c.in-Ok-Still.ensures.claimed) (rw c.in-Ok-Still.field-0-is at c.in-Ok-Still.ensures.done)) in
    let kept = c.keep_ticket.ensures in
    still-due pool new c.keep_ticket.new.pool site c.args.transfer again still kept.site c.args.self.now c.requires.keeps c.keep_ticket.new.tickets kept.tickets kept.leases kept.ordered

pub returns-in-Err-keep_ticket-clause-answer : goal.returns-in-Err-keep_ticket-clause-answer
returns-in-Err-keep_ticket-clause-answer c =
    let pool = c.args.pool.now in
    let site = c.args.site in
    let rest = c.is_at_rest.ensures in
    let due = ticket-kept pool site c.requires.there rest.at_rest rest.places c.args.self.now c.requires.keeps c.args.transfer c.in-Some.ticket (sym c.in-Some.is ∙ c.remove.ensures.value) in
    let new = c.claim.new.self in
    let again = c.in-Ok-Still.ticket in
    let still = still-waits pool new site c.args.transfer c.in-Some.ticket again (rest.places site c.requires.there).place due (still_as pool new c.in-Some.ticket again (rw c.in-Ok-Still.field-0-is at c.in-Ok-Still.ensures.claimed) (rw c.in-Ok-Still.field-0-is at c.in-Ok-Still.ensures.done)) in
    let transfer = c.args.transfer in
    let old = kept_at pool c.args.self.now in
    let others = keys c.remove.new.self in
    let among : is_among transfer old.tickets ≡ true =
    kept-among pool site c.requires.there rest.at_rest rest.places c.args.self.now c.requires.keeps transfer c.in-Some.ticket (sym c.in-Some.is ∙ c.remove.ensures.value) in
    let left : others ≡ without_ticket transfer old.tickets = ap keys_of c.remove.ensures.entries ∙ keys-removed c.args.self.now.tickets.entries transfer in
    let final = c.keep_ticket.new.pool in
    let failed = c.in-Err-keep_ticket.ensures in
    let rest_left : keys c.keep_ticket.new.tickets ≡ without_ticket transfer old.tickets = failed.put_back ∙ left in
    let withdrawn : all_hosts final ≡ after_withdrawing pool.limits site transfer 0 old.all =
    failed.withdrawn ∙ ap (λ (p : PoolShown (Unit {0})). after_withdrawing p.limits again.site again.wait.want.transfer 0 (all_hosts p)) still.same
    ∙ ap (λ s. after_withdrawing pool.limits s again.wait.want.transfer 0 old.all) still.here
    ∙ ap (λ t. after_withdrawing pool.limits site t 0 old.all) still.own in
    (refl, inr (claim-unticketed pool.limits site transfer old (keys c.keep_ticket.new.tickets) (all_hosts final) among rest_left (still-held pool new site transfer again still (sound-at pool site c.requires.there rest.at_rest rest.places)) withdrawn))

pub returns-in-Err-keep_ticket-clause-others : goal.returns-in-Err-keep_ticket-clause-others
returns-in-Err-keep_ticket-clause-others c =
    let pool = c.args.pool.now in
    let site = c.args.site in
    let rest = c.is_at_rest.ensures in
    let due = ticket-kept pool site c.requires.there rest.at_rest rest.places c.args.self.now c.requires.keeps c.args.transfer c.in-Some.ticket (sym c.in-Some.is ∙ c.remove.ensures.value) in
    let new = c.claim.new.self in
    let again = c.in-Ok-Still.ticket in
    let still = still-waits pool new site c.args.transfer c.in-Some.ticket again (rest.places site c.requires.there).place due (still_as pool new c.in-Some.ticket again (rw c.in-Ok-Still.field-0-is at c.in-Ok-Still.ensures.claimed) (rw c.in-Ok-Still.field-0-is at c.in-Ok-Still.ensures.done)) in
    still-others-keep pool new site c.args.transfer again still c.keep_ticket.new.pool c.keep_ticket.ensures.others

pub returns-in-Err-clause-answer : goal.returns-in-Err-clause-answer
returns-in-Err-clause-answer c =
    let pool = c.args.pool.now in
    let site = c.args.site in
    let rest = c.is_at_rest.ensures in
    let due = ticket-kept pool site c.requires.there rest.at_rest rest.places c.args.self.now c.requires.keeps c.args.transfer c.in-Some.ticket (sym c.in-Some.is ∙ c.remove.ensures.value) in
    absurd (no-stray pool site c.args.transfer c.in-Some.ticket (rest.places site c.requires.there).place due c.in-Err.ensures.strange.1)

pub returns-in-Err-clause-keeps : goal.returns-in-Err-clause-keeps
returns-in-Err-clause-keeps c =
    let pool = c.args.pool.now in
    let site = c.args.site in
    let rest = c.is_at_rest.ensures in
    let due = ticket-kept pool site c.requires.there rest.at_rest rest.places c.args.self.now c.requires.keeps c.args.transfer c.in-Some.ticket (sym c.in-Some.is ∙ c.remove.ensures.value) in
    absurd (no-stray pool site c.args.transfer c.in-Some.ticket (rest.places site c.requires.there).place due c.in-Err.ensures.strange.1)
