-- What a host keeps once a transfer spent its lease or its ticket, or got one.
use Rattle.std.proofs.Common.{◌≡◌, ◌<◌, ℕ, true, cond, List, length, subst, refl, ap, sym, ◌∙◌, Option, Some, None, is_some}
use Rattle.std.specs.Option.{option_map}
use Rattle.std.specs.Ordering.{nat_cmp}
use Rattle.std.specs.Map.{keys_of, lookup}
use Rattle.std.specs.BTreeMap.{get, is_at}
use Rattle.conn_log.specs.declared.entry.Want.{Want}
use Rattle.conn_log.specs.Connections.{is_among, is_held_by}
use Rattle.conn_log.specs.Sound.{IsSound}
use Rattle.std.proofs.lemmas.List.{length-map}
use Rattle.bundle.specs.Lease.{HostShown, Leasing, Ticketed, lease_number, ticket_want, Spends, GetsLease, GetsTicket, KeepsAll}
use Rattle.cache.specs.AllHosts.{AllHosts, log_at, terms, IsAtRest}
use Rattle.bundle.specs.Seats.{Tables}
use Rattle.cache.specs.Pools.{PoolShown, host_at, all_hosts, AreInPlace, IsMadeHere, IsTicketHere, KeepsHost}
use Rattle.cache.proofs.OneHost.{log_is}
use Rattle.script_engine.specs.declared.site_leases.SiteLeases.{SiteLeases}
use Rattle.script_engine.specs.Meaning.{claimed_number}
use Rattle.script_engine.specs.Hosted.{Keeps, KeepsDue, KeepsLeases, KeepsTickets, LeaseFacts, lease_facts, whereabouts, kept_facts, leases_of, wanted, wanted_at, tickets_of, due_others}
use Rattle.script_engine.proofs.Tickets.{among-keys}
use Rattle.script_engine.proofs.Leases.{held-passes, leased-held, leased-no-ticket, ticket-no-lease, leased-by-tickets, own-ticket, kept-due, kept-removed, kept-awaits, none-stays, same-whereabouts, leases-left, leases-same, leases-started, tickets-left, tickets-same, tickets-started, due-ticket, itself}

-- each host of a pool at rest is sound
pub sound-at : {S : Type 0} (pool : PoolShown S) (site : ℕ) → site < length pool.hosts → IsAtRest pool.limits (all_hosts pool) → AreInPlace pool → IsSound (host_at pool site).settings (host_at pool site).log
sound-at {S} pool site there rest places =
    let many : length (all_hosts pool).logs ≡ length pool.hosts = length-map pool.hosts (λ (h : HostShown S). h.log) in
    let sound = (rest.lawful.settled site (subst (λ n. site < n) (sym many) there)).sound in
    subst (λ settings. IsSound settings (host_at pool site).log) (sym (places site there).settings) (subst (IsSound (terms pool.limits)) (log_is pool site) sound)

-- the lease that is kept for a transfer
pub record IsKeptFor {S : Type 0} (host : HostShown S) (transfer : ℕ) (lease : Leasing S) : Type 0 where
  pub leased : lease_number host transfer ≡ Some lease.start.number
  pub own : lease.start.want.transfer ≡ transfer
  pub stream : is_some lease.stream ≡ true
  pub site : lease.site ≡ host.host
  pub tables : lease.tables ≡ host.tables

pub kept-lease : {S : Type 0} (host : HostShown S) (transfer : ℕ) (lease : Leasing S) → Some (lease_facts lease) ≡ leases_of host transfer → IsKeptFor host transfer lease
kept-lease host transfer lease e = by_leased (lease_number host transfer) refl e
  where
    by_leased : (leased : Option ℕ) → lease_number host transfer ≡ leased → Some (lease_facts lease) ≡ option_map (kept_facts (whereabouts host) transfer) leased → IsKeptFor host transfer lease
    by_leased None is h = cc
    by_leased (Some n) is h =
        let same : lease_facts lease ≡ kept_facts (whereabouts host) transfer n = cc in
        record {
          leased = is ∙ ap (λ (f : LeaseFacts). Some f.0) (sym same);
          own = ap (λ (f : LeaseFacts). f.1) same;
          stream = ap (λ (f : LeaseFacts). f.2) same;
          site = ap (λ (f : LeaseFacts). f.3.0) same;
          tables = ap (λ (f : LeaseFacts). f.3.1) same;
        }

pub kept-none : {S : Type 0} (host : HostShown S) (transfer : ℕ) → None ≡ leases_of host transfer → lease_number host transfer ≡ None
kept-none host transfer e = by_leased (lease_number host transfer) e
  where
    by_leased : (leased : Option ℕ) → None ≡ option_map (kept_facts (whereabouts host) transfer) leased → leased ≡ None
    by_leased None h = refl
    by_leased (Some n) h = cc

-- a lease that is kept of a host in its place was made there, in that pool
pub kept-made : {S : Type 0} (pool : PoolShown S) (site transfer : ℕ) (lease : Leasing S) → site < length pool.hosts → (host_at pool site).host ≡ site → IsKeptFor (host_at pool site) transfer lease
    → (lease.site ≡ site) × IsMadeHere pool lease
kept-made pool site transfer lease there place kept =
    let same : lease.site ≡ site = kept.site ∙ place in
    (same, record { there = subst (λ s. s < length pool.hosts) (sym same) there; tables = kept.tables ∙ ap (λ s. (host_at pool s).tables) (sym same) })

-- a lease with the same facts but its stream was made where that one was
pub made-again : {S : Type 0} (pool : PoolShown S) (lease again : Leasing S) → IsMadeHere pool lease → lease_facts again ≡ (lease.start.number, lease.start.want.transfer, true, (lease.site, lease.tables)) → IsMadeHere pool again
made-again pool lease again made facts =
    let same : again.site ≡ lease.site = ap (λ (f : LeaseFacts). f.3.0) facts in
    record {
      there = subst (λ s. s < length pool.hosts) (sym same) made.there;
      tables = ap (λ (f : LeaseFacts). f.3.1) facts ∙ made.tables ∙ ap (λ s. (host_at pool s).tables) (sym same);
    }

-- the ticket that is kept for a transfer
pub record IsTicketFor {S : Type 0} (host : HostShown S) (transfer : ℕ) (ticket : Ticketed) : Type 0 where
  pub wants : ticket_want host transfer ≡ Some ticket.wait.want
  pub own : ticket.wait.want.transfer ≡ transfer
  pub site : ticket.site ≡ host.host
  pub tables : ticket.tables ≡ host.tables

-- that of a host in its place was made there, in that pool
pub ticket-made : {S : Type 0} (pool : PoolShown S) (site transfer : ℕ) (ticket : Ticketed) → site < length pool.hosts → (host_at pool site).host ≡ site → IsTicketFor (host_at pool site) transfer ticket
    → IsTicketHere pool ticket
ticket-made pool site transfer ticket there place kept =
    let same : ticket.site ≡ site = kept.site ∙ place in
    record { there = subst (λ s. s < length pool.hosts) (sym same) there; tables = kept.tables ∙ ap (λ s. (host_at pool s).tables) (sym same) }

module _ {S : Type 0} (host : HostShown S) (sound : IsSound host.settings host.log) where
  -- the connection of a kept lease is held by its transfer
  pub kept-held : (transfer : ℕ) (lease : Leasing S) → IsKeptFor host transfer lease → is_held_by host.log lease.start.want.transfer lease.start.number ≡ true
  kept-held transfer lease kept = rw kept.own (held-passes host.settings host.log sound transfer lease.start.number (leased-held host transfer lease.start.number kept.leased))

  -- who has a ticket, by the keys of those that are kept
  pub ticketed : (entries : List (ℕ × Ticketed)) → KeepsTickets (tickets_of host) (λ t. lookup (is_at (nat_cmp t)) entries) → (t : ℕ) → is_among t (keys_of entries) ≡ is_some (ticket_want host t)
  ticketed entries keeps t = among-keys entries t ∙ by_ticket (lookup (is_at (nat_cmp t)) entries) ∙ ap is_some (keeps t) ∙ by_want (ticket_want host t)
    where
      by_ticket : (ticket : Option Ticketed) → is_some ticket ≡ is_some (option_map wanted ticket)
      by_ticket None = refl
      by_ticket (Some ticket) = refl

      by_want : (want : Option Want) → is_some (option_map (wanted_at (whereabouts host)) want) ≡ is_some want
      by_want None = refl
      by_want (Some want) = refl

  -- who has a lease, by those keys
  pub leased-by-keys : (entries : List (ℕ × Ticketed)) → KeepsTickets (tickets_of host) (λ t. lookup (is_at (nat_cmp t)) entries) → (site : ℕ) (all : AllHosts) → log_at all site ≡ host.log → (t : ℕ)
      → claimed_number site (record { all = all; tickets = keys_of entries }) t ≡ lease_number host t
  leased-by-keys entries keeps site all log t = leased-by-tickets host sound t site (record { all = all; tickets = keys_of entries }) log (ticketed entries keeps t)

  -- the ticket that is kept for a transfer
  pub kept-ticket : (entries : List (ℕ × Ticketed)) (transfer : ℕ) (ticket : Ticketed) → KeepsTickets (tickets_of host) (λ t. lookup (is_at (nat_cmp t)) entries)
      → Some ticket ≡ lookup (is_at (nat_cmp transfer)) entries → IsTicketFor host transfer ticket
  kept-ticket entries transfer ticket keeps there =
      let due = due-ticket host transfer (ticket.site, ticket.tables) ticket.wait.want (sym (keeps transfer) ∙ ap (option_map wanted) (sym there)) in
      record { wants = due.0; own = own-ticket host sound transfer ticket.wait.want due.0; site = ap (λ (made : ℕ × Tables). made.0) due.1; tables = ap (λ (made : ℕ × Tables). made.1) due.1 }

module _ {S : Type 0} (old new : HostShown S) (here : whereabouts new ≡ whereabouts old) (sound : IsSound old.settings old.log) (transfer : ℕ) where
  -- the lease of the transfer was spent
  pub lease-spent : (leases after : ℕ → Option (Leasing S)) (tickets : ℕ → Option Ticketed) (c : ℕ) → Keeps old leases tickets → lease_number old transfer ≡ Some c
      → ((q : ℕ) → after q ≡ cond (is_at (nat_cmp transfer) q) None (leases q)) → Spends old new transfer → Keeps new after tickets
  lease-spent leases after tickets c keeps leased taken spends = record {
    leases = kept-due lease_facts (due_others transfer (leases_of old)) (leases_of new) after
        (kept-removed lease_facts transfer (leases_of old) leases after keeps.leases taken) (leases-left old new here transfer spends.leases);
    tickets = kept-due wanted (tickets_of old) (tickets_of new) tickets keeps.tickets
        (tickets-same old new here transfer (none-stays transfer (ticket_want old) (ticket_want new) (leased-no-ticket old sound transfer c leased) spends.tickets));
  }

  -- the ticket of the transfer was spent
  pub ticket-spent : (leases : ℕ → Option (Leasing S)) (tickets after : ℕ → Option Ticketed) (want : Want) → Keeps old leases tickets → ticket_want old transfer ≡ Some want
      → ((q : ℕ) → after q ≡ cond (is_at (nat_cmp transfer) q) None (tickets q)) → Spends old new transfer → Keeps new leases after
  ticket-spent leases tickets after want keeps wants taken spends = record {
    leases = kept-due lease_facts (leases_of old) (leases_of new) leases keeps.leases
        (leases-same old new here transfer (none-stays transfer (lease_number old) (lease_number new) (ticket-no-lease old sound transfer want wants) spends.leases));
    tickets = kept-due wanted (due_others transfer (tickets_of old)) (tickets_of new) after
        (kept-removed wanted transfer (tickets_of old) tickets after keeps.tickets taken) (tickets-left old new here transfer spends.tickets);
  }

module _ {S : Type 0} (old new : HostShown S) (here : whereabouts new ≡ whereabouts old) where
  -- nobody's lease or ticket changed
  pub keeps-same : (leases : ℕ → Option (Leasing S)) (tickets : ℕ → Option Ticketed) → Keeps old leases tickets → KeepsAll old new → Keeps new leases tickets
  keeps-same leases tickets keeps same = record {
    leases = kept-due lease_facts (leases_of old) (leases_of new) leases keeps.leases (λ q. leases-same old new here q same.leases q);
    tickets = kept-due wanted (tickets_of old) (tickets_of new) tickets keeps.tickets (λ q. tickets-same old new here q same.tickets q);
  }

  -- a transfer that had none got a lease, which is not kept yet
  pub lease-awaits : (transfer c : ℕ) (leases : ℕ → Option (Leasing S)) → KeepsLeases (leases_of old) leases → lease_number old transfer ≡ None → GetsLease old new transfer c
      → KeepsLeases (due_others transfer (leases_of new)) leases
  lease-awaits transfer c leases keeps none gets =
      kept-awaits lease_facts transfer (Some (kept_facts (whereabouts old) transfer c)) (leases_of old) (leases_of new) leases keeps (ap (option_map (kept_facts (whereabouts old) transfer)) none) (leases-started old new here transfer c gets.leases)

  -- the same of a ticket
  pub ticket-awaits : (want : Want) (tickets : ℕ → Option Ticketed) → KeepsTickets (tickets_of old) tickets → ticket_want old want.transfer ≡ None → GetsTicket old new want
      → KeepsTickets (due_others want.transfer (tickets_of new)) tickets
  ticket-awaits want tickets keeps none gets =
      kept-awaits wanted want.transfer (Some (whereabouts old, want)) (tickets_of old) (tickets_of new) tickets keeps (ap (option_map (wanted_at (whereabouts old))) none) (tickets-started old new here want.transfer want gets.tickets)

module _ {S : Type 0} (old new : HostShown S) where
  pub lease-own : (transfer c : ℕ) → GetsLease old new transfer c → lease_number new transfer ≡ Some c
  lease-own transfer c gets = gets.leases transfer ∙ ap (λ b. cond b (Some c) (lease_number old transfer)) (itself transfer)

  pub lease-no-ticket : (transfer c : ℕ) → GetsLease old new transfer c → ticket_want new transfer ≡ None
  lease-no-ticket transfer c gets = gets.tickets transfer ∙ ap (λ b. cond b None (ticket_want old transfer)) (itself transfer)

  pub ticket-own : (want : Want) → GetsTicket old new want → ticket_want new want.transfer ≡ Some want
  ticket-own want gets = gets.tickets want.transfer ∙ ap (λ b. cond b (Some want) (ticket_want old want.transfer)) (itself want.transfer)

-- a transfer got a lease, which was then kept or given up; what happened then changed nobody's ticket
module _ {S : Type 0} (old new final : HostShown S) (here : whereabouts final ≡ whereabouts old) (transfer c : ℕ) (leases after : ℕ → Option (Leasing S)) (tickets : ℕ → Option Ticketed) where
  -- where it had no ticket
  pub started-kept : Keeps old leases tickets → ticket_want old transfer ≡ None → GetsLease old new transfer c → KeepsLeases (leases_of final) after
      → ((q : ℕ) → ticket_want final q ≡ ticket_want new q) → Keeps final after tickets
  started-kept keeps none gets kept same = record {
    leases = kept;
    tickets = kept-due wanted (tickets_of old) (tickets_of final) tickets keeps.tickets
        (tickets-same old final here transfer (λ q. same q ∙ none-stays transfer (ticket_want old) (ticket_want new) none gets.tickets q));
  }

  -- where it had one, which is taken out
  pub claimed-kept : (others : ℕ → Option Ticketed) → Keeps old leases tickets → ((q : ℕ) → others q ≡ cond (is_at (nat_cmp transfer) q) None (tickets q)) → GetsLease old new transfer c
      → KeepsLeases (leases_of final) after → ((q : ℕ) → ticket_want final q ≡ ticket_want new q) → Keeps final after others
  claimed-kept others keeps taken gets kept same = record {
    leases = kept;
    tickets = kept-due wanted (due_others transfer (tickets_of old)) (tickets_of final) others
        (kept-removed wanted transfer (tickets_of old) tickets others keeps.tickets taken) (tickets-left old final here transfer (λ q. same q ∙ gets.tickets q));
  }

-- where nobody's lease or ticket changed, what is due stays kept
pub due-stays : (old new : HostShown (Unit {0})) (kept : SiteLeases) → KeepsHost old new → KeepsDue old kept → KeepsDue new kept
due-stays old new kept stays due = record {
  keeps = keeps-same old new (same-whereabouts old new stays.stays.same) (get nat_cmp kept.leases) (get nat_cmp kept.tickets) due.keeps stays.keeps;
  holders = due.holders;
  waiters = due.waiters;
  uncut = stays.stays.same.cut_away ∙ due.uncut;
}
