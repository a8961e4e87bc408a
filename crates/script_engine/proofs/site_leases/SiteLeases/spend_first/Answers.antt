use Rattle.std.proofs.Common.{◌≡◌, refl, false, cond, ◌||◌, ◌∷◌, sym, ◌∙◌, ap, subst, is_some, Some}
use Rattle.std.specs.Option.{option_map}
use Rattle.std.specs.Ordering.{nat_cmp}
use Rattle.std.specs.Map.{keys_of}
use Rattle.std.specs.BTreeMap.{get, keys}
use Rattle.conn_log.specs.Connections.{is_among, held_number}
use Rattle.bundle.specs.Lease.{Spends, is_valid_ticket}
use Rattle.cache.specs.AllHosts.{log_at}
use Rattle.cache.specs.Calls.{after_abandoning, after_withdrawing}
use Rattle.cache.specs.Pools.{host_at, all_hosts, StaysHost, KeepsOtherHosts}
use Rattle.cache.proofs.OneHost.{log_is}
use Rattle.script_engine.specs.Hosted.{kept_at, lease_facts}
use Rattle.script_engine.specs.Meaning.{without_ticket}
use Rattle.script_engine.specs.Ending.{after_dropping}
use Rattle.script_engine.proofs.Leases.{itself, kept-valid, leased-held, leased-no-ticket, same-whereabouts}
use Rattle.script_engine.proofs.Spending.{sound-at, kept-lease, kept-made, ticketed, kept-ticket, ticket-made, ticket-spent, lease-spent}
use Rattle.script_engine.proofs.Ending.{waiter-first, holder-first, none-at-all, gave-up-ticket, gave-up-lease}
use Rattle.script_engine.proofs.site_leases.SiteLeases.spend_first.Goals as goal

pub withdraw_ticket-requires-clause-own : goal.withdraw_ticket-requires-clause-own
withdraw_ticket-requires-clause-own c =
    let pool = c.args.pool.now in
    let host = host_at pool c.args.site in
    let t = c.in_ok-transfer.transfer in
    let ticket = c.in_ok-transfer.first in
    let sound = sound-at pool c.args.site c.requires.there c.is_at_rest.ensures.at_rest c.is_at_rest.ensures.places in
    let kept = kept-ticket host sound c.args.self.now.tickets.entries t ticket c.requires.keeps.keeps.tickets (sym c.in_ok-transfer.ensures.value) in
    let same : ticket.site ≡ c.args.site = kept.site ∙ (c.is_at_rest.ensures.places c.args.site c.requires.there).place in
    ap (λ s. is_valid_ticket (host_at pool s) ticket.wait.want) same ∙ kept-valid host t ticket.wait.want kept.wants kept.own

pub withdraw_ticket-requires-clause-here : goal.withdraw_ticket-requires-clause-here
withdraw_ticket-requires-clause-here c =
    let pool = c.args.pool.now in
    let t = c.in_ok-transfer.transfer in
    let ticket = c.in_ok-transfer.first in
    let sound = sound-at pool c.args.site c.requires.there c.is_at_rest.ensures.at_rest c.is_at_rest.ensures.places in
    let kept = kept-ticket (host_at pool c.args.site) sound c.args.self.now.tickets.entries t ticket c.requires.keeps.keeps.tickets (sym c.in_ok-transfer.ensures.value) in
    ticket-made pool c.args.site t ticket c.requires.there (c.is_at_rest.ensures.places c.args.site c.requires.there).place kept

pub returns-in_ok-transfer-clause-first : goal.returns-in_ok-transfer-clause-first
returns-in_ok-transfer-clause-first c =
    waiter-first c.in_ok-transfer.transfer (keys c.args.self.now.leases) (keys c.args.self.now.tickets) (keys c.pop_first.new.self) (ap keys_of c.in_ok-transfer.ensures.removal) c.requires.keeps.holders c.requires.keeps.waiters
    (sym c.is_ticket_first.ensures ∙ c.if-is_ticket_first.true)

pub returns-in_ok-transfer-clause-all : goal.returns-in_ok-transfer-clause-all
returns-in_ok-transfer-clause-all c =
    let pool = c.args.pool.now in
    let site = c.args.site in
    let host = host_at pool site in
    let t = c.in_ok-transfer.transfer in
    let ticket = c.in_ok-transfer.first in
    let rest = keys c.pop_first.new.self in
    let first : keys c.args.self.now.tickets ≡ t ∷ rest = ap keys_of c.in_ok-transfer.ensures.removal in
    let sound = sound-at pool site c.requires.there c.is_at_rest.ensures.at_rest c.is_at_rest.ensures.places in
    let kept = kept-ticket host sound c.args.self.now.tickets.entries t ticket c.requires.keeps.keeps.tickets (sym c.in_ok-transfer.ensures.value) in
    let same : ticket.site ≡ site = kept.site ∙ (c.is_at_rest.ensures.places site c.requires.there).place in
    gave-up-ticket pool.limits site (kept_at pool c.args.self.now) t (all_hosts c.withdraw_ticket.new.pool) rest
    (ap (is_among t) first ∙ ap (λ b. b || is_among t rest) (itself t))
    (ap (λ b. cond b rest (t ∷ without_ticket t rest)) (sym (itself t)) ∙ ap (without_ticket t) (sym first))
    (c.withdraw_ticket.ensures.all ∙ ap (λ s. after_withdrawing pool.limits s ticket.wait.want.transfer 0 (all_hosts pool)) same ∙ ap (λ u. after_withdrawing pool.limits site u 0 (all_hosts pool)) kept.own)

pub returns-in_ok-transfer-clause-keeps : goal.returns-in_ok-transfer-clause-keeps
returns-in_ok-transfer-clause-keeps c =
    let pool = c.args.pool.now in
    let site = c.args.site in
    let host = host_at pool site in
    let new = host_at c.withdraw_ticket.new.pool site in
    let t = c.in_ok-transfer.transfer in
    let ticket = c.in_ok-transfer.first in
    let sound = sound-at pool site c.requires.there c.is_at_rest.ensures.at_rest c.is_at_rest.ensures.places in
    let kept = kept-ticket host sound c.args.self.now.tickets.entries t ticket c.requires.keeps.keeps.tickets (sym c.in_ok-transfer.ensures.value) in
    let same : ticket.site ≡ site = kept.site ∙ (c.is_at_rest.ensures.places site c.requires.there).place in
    let stays : StaysHost host new = subst (λ s. StaysHost (host_at pool s) (host_at c.withdraw_ticket.new.pool s)) same c.withdraw_ticket.ensures.site in
    let spends : Spends host new ticket.wait.want.transfer = subst (λ s. Spends (host_at pool s) (host_at c.withdraw_ticket.new.pool s) ticket.wait.want.transfer) same c.withdraw_ticket.ensures.spends in
    record {
      keeps = ticket-spent host new (same-whereabouts host new stays.same) sound t (get nat_cmp c.args.self.now.leases) (get nat_cmp c.args.self.now.tickets) (get nat_cmp c.pop_first.new.self) ticket.wait.want
          c.requires.keeps.keeps kept.wants c.in_ok-transfer.ensures.updates.0 (subst (Spends host new) kept.own spends);
      holders = c.requires.keeps.holders;
      waiters = c.in_ok-transfer.ensures.ordered;
      uncut = stays.same.cut_away ∙ c.requires.keeps.uncut;
    }

pub returns-in_err-transfer-2-clause-none : goal.returns-in_err-transfer-2-clause-none
returns-in_err-transfer-2-clause-none c =
    none-at-all c.args.self.now.leases.entries c.args.self.now.tickets.entries c.from_residual-in_err-transfer-2.result (sym c.is_ticket_first.ensures ∙ c.if-is_ticket_first.false) c.in_err-transfer-2.ensures.variant.1 refl

pub abandon-requires : goal.abandon-requires
abandon-requires c =
    let pool = c.args.pool.now in
    let host = host_at pool c.args.site in
    let t = c.in_ok-transfer-2.transfer in
    let lease = c.in_ok-transfer-2.first in
    let kept = kept-lease host t lease (ap (option_map lease_facts) (sym c.in_ok-transfer-2.ensures.value) ∙ c.requires.keeps.keeps.leases t) in
    record { here = (kept-made pool c.args.site t lease c.requires.there (c.is_at_rest.ensures.places c.args.site c.requires.there).place kept).1 }

pub returns-in_ok-transfer-2-clause-first : goal.returns-in_ok-transfer-2-clause-first
returns-in_ok-transfer-2-clause-first c =
    let pool = c.args.pool.now in
    let host = host_at pool c.args.site in
    let t = c.in_ok-transfer-2.transfer in
    let lease = c.in_ok-transfer-2.first in
    let sound = sound-at pool c.args.site c.requires.there c.is_at_rest.ensures.at_rest c.is_at_rest.ensures.places in
    let kept = kept-lease host t lease (ap (option_map lease_facts) (sym c.in_ok-transfer-2.ensures.value) ∙ c.requires.keeps.keeps.leases t) in
    let none = leased-no-ticket host sound t lease.start.number kept.leased in
    let apart : is_among t (keys c.args.self.now.tickets) ≡ false = ticketed host sound c.args.self.now.tickets.entries c.requires.keeps.keeps.tickets t ∙ ap is_some none in
    holder-first t (keys c.args.self.now.leases) (keys c.pop_first-else-is_ticket_first.new.self) (keys c.args.self.now.tickets) (ap keys_of c.in_ok-transfer-2.ensures.removal) c.requires.keeps.waiters
    (sym c.is_ticket_first.ensures ∙ c.if-is_ticket_first.false) apart

pub returns-in_ok-transfer-2-clause-all : goal.returns-in_ok-transfer-2-clause-all
returns-in_ok-transfer-2-clause-all c =
    let pool = c.args.pool.now in
    let site = c.args.site in
    let host = host_at pool site in
    let t = c.in_ok-transfer-2.transfer in
    let lease = c.in_ok-transfer-2.first in
    let number = lease.start.number in
    let sound = sound-at pool site c.requires.there c.is_at_rest.ensures.at_rest c.is_at_rest.ensures.places in
    let kept = kept-lease host t lease (ap (option_map lease_facts) (sym c.in_ok-transfer-2.ensures.value) ∙ c.requires.keeps.keeps.leases t) in
    let made = kept-made pool site t lease c.requires.there (c.is_at_rest.ensures.places site c.requires.there).place kept in
    let none = leased-no-ticket host sound t number kept.leased in
    let apart : is_among t (keys c.args.self.now.tickets) ≡ false = ticketed host sound c.args.self.now.tickets.entries c.requires.keeps.keeps.tickets t ∙ ap is_some none in
    let held : held_number (log_at (all_hosts pool) site) t ≡ Some number = ap (λ log. held_number log t) (log_is pool site) ∙ leased-held host t number kept.leased in
    gave-up-lease pool.limits site (kept_at pool c.args.self.now) t (all_hosts c.abandon.new.self) apart
    (c.abandon.ensures.all ∙ ap (λ s. after_abandoning pool.limits s number 0 (all_hosts pool)) made.0 ∙ ap (after_dropping pool.limits site (all_hosts pool)) (sym held))

pub returns-in_ok-transfer-2-clause-keeps : goal.returns-in_ok-transfer-2-clause-keeps
returns-in_ok-transfer-2-clause-keeps c =
    let pool = c.args.pool.now in
    let site = c.args.site in
    let host = host_at pool site in
    let new = host_at c.abandon.new.self site in
    let t = c.in_ok-transfer-2.transfer in
    let lease = c.in_ok-transfer-2.first in
    let sound = sound-at pool site c.requires.there c.is_at_rest.ensures.at_rest c.is_at_rest.ensures.places in
    let kept = kept-lease host t lease (ap (option_map lease_facts) (sym c.in_ok-transfer-2.ensures.value) ∙ c.requires.keeps.keeps.leases t) in
    let same : lease.site ≡ site = kept.site ∙ (c.is_at_rest.ensures.places site c.requires.there).place in
    let stays : StaysHost host new = subst (λ s. StaysHost (host_at pool s) (host_at c.abandon.new.self s)) same c.abandon.ensures.at_site.host in
    let spends : Spends host new lease.start.want.transfer = subst (λ s. Spends (host_at pool s) (host_at c.abandon.new.self s) lease.start.want.transfer) same c.abandon.ensures.spends in
    record {
      keeps = lease-spent host new (same-whereabouts host new stays.same) sound t (get nat_cmp c.args.self.now.leases) (get nat_cmp c.pop_first-else-is_ticket_first.new.self) (get nat_cmp c.args.self.now.tickets) lease.start.number
          c.requires.keeps.keeps kept.leased c.in_ok-transfer-2.ensures.updates.0 (subst (Spends host new) kept.own spends);
      holders = c.in_ok-transfer-2.ensures.ordered;
      waiters = c.requires.keeps.waiters;
      uncut = stays.same.cut_away ∙ c.requires.keeps.uncut;
    }

pub returns-in_ok-transfer-2-clause-others : goal.returns-in_ok-transfer-2-clause-others
returns-in_ok-transfer-2-clause-others c =
    let pool = c.args.pool.now in
    let site = c.args.site in
    let t = c.in_ok-transfer-2.transfer in
    let lease = c.in_ok-transfer-2.first in
    let kept = kept-lease (host_at pool site) t lease (ap (option_map lease_facts) (sym c.in_ok-transfer-2.ensures.value) ∙ c.requires.keeps.keeps.leases t) in
    let made = kept-made pool site t lease c.requires.there (c.is_at_rest.ensures.places site c.requires.there).place kept in
    subst (λ s. KeepsOtherHosts s pool c.abandon.new.self) made.0 c.abandon.ensures.at_site.others
