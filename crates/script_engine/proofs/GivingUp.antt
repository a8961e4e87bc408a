-- What a transfer got by a command, which is kept; or given up, where memory fails the command.
use Rattle.std.proofs.Common.{◌≡◌, ℕ, Bool, true, false, cond, ◌||◌, List, [], ◌∷◌, length, refl, ap, sym, subst, ◌∙◌, Option, Some, None, Result, Ok, Err, OnOk, OnErr, IfSome, is_some, BTreeMap, inl, inr, arith}
use Rattle.std.specs.Prelude.{◌<◌, ◌≤◌, ◌⊎◌, ◌==◌, nat_lt}
use Rattle.std.specs.Ordering.{nat_cmp}
use Rattle.std.specs.BTreeMap.{get, keys, is_at, IsOrdered}
use Rattle.budget.specs.Limits.{Bounds}
use Rattle.budget.specs.declared.refusal.Refusal.{Refusal}
use Rattle.conn_log.specs.declared.entry.Want.{Want}
use Rattle.conn_log.specs.Connections.{is_among, held_number}
use Rattle.conn_log.specs.Sound.{IsSound}
use Rattle.host_state.specs.Calls.{refusal, Reply, Start, starts, Wait, waits_on}
use Rattle.bundle.specs.Lease.{HostShown, Leasing, Ticketed, is_unclaimed, lease_number, ticket_want, is_valid_ticket, GetsLease, GetsTicket, WasGranted}
use Rattle.cache.specs.AllHosts.{AllHosts, log_at, terms, IsAtRest}
use Rattle.cache.specs.Calls.{after_acquire, reply_of, after_abandoning, after_withdrawing}
use Rattle.bundle.specs.declared.answers.Acquired.TheVariants as gives
use Rattle.cache.specs.Pools.{PoolShown, host_at, all_hosts, IsAcquired, IsTicketHere, AreInPlace, StaysHost, StaysPool, KeepsOtherHosts}
use Rattle.cache.specs.PoolCalls.{acquire_refusal}
use Rattle.cache.proofs.OneHost.{log_is}
use Rattle.cache.proofs.Refusals.{due_at, owed_in}
use Rattle.cache.proofs.Keeping.{stays_host_on, keeps_others_on}
use Rattle.script_text.specs.declared.command.Action.{Action}
use Rattle.script_text.specs.declared.fault.FaultKind.{FaultKind}
use Rattle.script_text.specs.declared.fault.FaultKind.TheVariants.{Memory}
use Rattle.script_engine.specs.Meaning.{AtSite, AnswerAt, with_ticket, without_ticket, get_at, claim_at}
use Rattle.script_engine.specs.Ending.{after_dropping, after_giving_up}
use Rattle.script_engine.specs.Hosted.{IsUntold, Gives, lease_facts, KeepsDue, KeepsLeases, KeepsTickets, leases_of, tickets_of, due_others}
use Rattle.script_engine.specs.Telling.{AllGrowAfter}
use Rattle.script_engine.specs.declared.site_leases.SiteLeases.{SiteLeases}
use Rattle.script_engine.proofs.TicketLists.{turned, among-with}
use Rattle.script_engine.proofs.Leases.{itself, accepted-free, free-none, leased-held, ticket-no-lease, still-unheld, kept-valid, same-whereabouts, kept-due, leases-same}
use Rattle.script_engine.proofs.Spending.{IsTicketFor, sound-at, ticketed, kept-ticket, lease-awaits, ticket-awaits, lease-own, lease-no-ticket, ticket-own, started-kept, claimed-kept}
use Rattle.script_engine.proofs.GrowthOfAll.{same-grow, abandoned-grow, withdrawn-grow}
use Rattle.script_engine.proofs.Answering.{get-started, get-waited, claim-granted, claim-still, started-of, waited-of, accepted}

pub gives-memory : {T : Type 0} (bytes : T → List ℕ) (limits : Bounds) (site : ℕ) (old : AtSite) (action : Action) (r : Result T FaultKind) (kind : FaultKind) (new : AtSite)
    → r ≡ Err kind → kind ≡ Memory → IsUntold limits site old action new → Gives bytes limits site old action r new
gives-memory bytes limits site old action r kind new is memory left = rw is (memory, left)

-- a transfer gives up its ticket, or without one what it holds
module _ (limits : Bounds) (site : ℕ) (here : AtSite) (t : ℕ) (all : AllHosts) where
  pub gave-up-ticket : (rest : List ℕ) → is_among t here.tickets ≡ true → rest ≡ without_ticket t here.tickets → all ≡ after_withdrawing limits site t 0 here.all
      → ◌≡◌ {A = AtSite} (record { all = all; tickets = rest }) (after_giving_up limits site here t)
  gave-up-ticket rest among left same = rw (same, among, left) refl

  pub gave-up-lease : is_among t here.tickets ≡ false → all ≡ after_dropping limits site here.all (held_number (log_at here.all site) t)
      → ◌≡◌ {A = AtSite} (record here { all = all }) (after_giving_up limits site here t)
  gave-up-lease apart same = rw (same, apart) refl

-- a ticket more and then one less
pub taken-back : (t : ℕ) (tickets : List ℕ) → is_among t tickets ≡ false → tickets ≡ without_ticket t (with_ticket t tickets)
taken-back t [] apart = ap (λ b. cond b [] (t ∷ [])) (sym (itself t))
taken-back t (x ∷ others) apart = by_order (nat_lt t x) (t == x) refl (x == t) (turned t x) apart (taken-back t others)
  where
    by_order : (less same : Bool) → (t == x) ≡ same → (here : Bool) → same ≡ here → (here || is_among t others) ≡ false → (is_among t others ≡ false → others ≡ without_ticket t (with_ticket t others))
        → x ∷ others ≡ without_ticket t (cond less (t ∷ x ∷ others) (cond same (x ∷ others) (x ∷ with_ticket t others)))
    by_order true same is here it apart' rest = ap (λ b. cond b (x ∷ others) (t ∷ without_ticket t (x ∷ others))) (sym (itself t))
    by_order false true is true it apart' rest = absurd (cc)
    by_order false true is false it apart' rest = absurd (cc)
    by_order false false is true it apart' rest = absurd (cc)
    by_order false false is false it apart' rest = ap (λ keys. x ∷ keys) (rest apart') ∙ ap (λ b. cond b (with_ticket t others) (x ∷ without_ticket t (with_ticket t others))) (sym is)

abbrev here_of : AnswerAt → AtSite
here_of answer = answer.here

-- what a get gave could not be kept
module _ (limits : Bounds) (site : ℕ) (want : Want) (moment : ℕ) (old : AtSite) (new final : AllHosts) (accepted : refusal (terms limits) (log_at old.all site) [] want ≡ None) (same : new ≡ after_acquire limits site want moment old.all) (apart : is_among want.transfer old.tickets ≡ false) where
  pub get-unleased : (start : Start) → reply_of limits site want moment old.all ≡ starts start → held_number (log_at new site) want.transfer ≡ Some start.number
      → final ≡ after_abandoning limits site start.number 0 new
      → ◌≡◌ {A = AtSite} (record old { all = final }) (after_giving_up limits site (get_at limits site want moment old).here want.transfer)
  get-unleased start reply held abandoned =
      gave-up-lease limits site (record old { all = new }) want.transfer final apart (abandoned ∙ ap (after_dropping limits site new) (sym held))
      ∙ ap (λ answer. after_giving_up limits site (here_of answer) want.transfer) (sym (get-started limits site want moment old new accepted same start reply))

  pub get-unticketed : (wait : Wait) → reply_of limits site want moment old.all ≡ waits_on wait → final ≡ after_withdrawing limits site want.transfer 0 new
      → ◌≡◌ {A = AtSite} (record old { all = final }) (after_giving_up limits site (get_at limits site want moment old).here want.transfer)
  get-unticketed wait reply withdrawn =
      let among = among-with want.transfer want.transfer old.tickets ∙ ap (λ b. b || is_among want.transfer old.tickets) (itself want.transfer) in
      gave-up-ticket limits site (record { all = new; tickets = with_ticket want.transfer old.tickets }) want.transfer final old.tickets among (taken-back want.transfer old.tickets apart) withdrawn
      ∙ ap (λ answer. after_giving_up limits site (here_of answer) want.transfer) (sym (get-waited limits site want moment old new accepted same wait reply))

-- nor what a claim gave
module _ (limits : Bounds) (site transfer : ℕ) (old : AtSite) (rest : List ℕ) (final : AllHosts) (among : is_among transfer old.tickets ≡ true) (left : rest ≡ without_ticket transfer old.tickets) where
  pub claim-unleased : (c : ℕ) → held_number (log_at old.all site) transfer ≡ Some c → is_among transfer rest ≡ false → final ≡ after_abandoning limits site c 0 old.all
      → ◌≡◌ {A = AtSite} (record { all = final; tickets = rest }) (after_giving_up limits site (claim_at site transfer old).here transfer)
  claim-unleased c held apart abandoned =
      gave-up-lease limits site (record old { tickets = rest }) transfer final apart (abandoned ∙ ap (after_dropping limits site old.all) (sym held))
      ∙ ap (λ tickets. after_giving_up limits site (record old { tickets = tickets }) transfer) left
      ∙ ap (λ answer. after_giving_up limits site (here_of answer) transfer) (sym (claim-granted site transfer old c among held))

  pub claim-unticketed : held_number (log_at old.all site) transfer ≡ None → final ≡ after_withdrawing limits site transfer 0 old.all
      → ◌≡◌ {A = AtSite} (record { all = final; tickets = rest }) (after_giving_up limits site (claim_at site transfer old).here transfer)
  claim-unticketed held withdrawn =
      gave-up-ticket limits site old transfer final rest among left withdrawn ∙ ap (λ answer. after_giving_up limits site (here_of answer) transfer) (sym (claim-still site transfer old among held))

-- a transfer that is not refused has nothing at the site
module _ {S : Type 0} (pool : PoolShown S) (site : ℕ) (there : site < length pool.hosts) (places : AreInPlace pool) (want : Want) where
  pub let-in : {A : Type 0} (got : A) → IfSome (acquire_refusal pool site want) (λ reason. ◌≡◌ {A = Result A Refusal} (Ok got) (Err reason)) → refusal (host_at pool site).settings (host_at pool site).log [] want ≡ None
  let-in {A = A} got refused =
      accepted got (refusal (host_at pool site).settings (host_at pool site).log [] want) (owed_in (acquire_refusal pool site want) _ (λ reason. ◌≡◌ {A = Result A Refusal} (Ok got) (Err reason)) (due_at pool site there want) refused)

  pub let-in-there : refusal (host_at pool site).settings (host_at pool site).log [] want ≡ None → refusal (terms pool.limits) (log_at (all_hosts pool) site) [] want ≡ None
  let-in-there only =
      ap (λ log. refusal (terms pool.limits) log [] want) (log_is pool site)
      ∙ ap (λ settings. refusal settings (host_at pool site).log [] want) (sym (places site there).settings) ∙ only

  pub has-none : IsSound (host_at pool site).settings (host_at pool site).log → refusal (host_at pool site).settings (host_at pool site).log [] want ≡ None
      → (lease_number (host_at pool site) want.transfer ≡ None) × (ticket_want (host_at pool site) want.transfer ≡ None)
  has-none sound only =
      let free = accepted-free (host_at pool site).settings (host_at pool site).log sound want only in
      free-none (host_at pool site) sound want.transfer free.0 free.1

-- a transfer got a lease at a site
pub record GotLease {S : Type 0} (old new : PoolShown S) (site transfer : ℕ) (lease : Leasing S) : Type 0 where
  pub here : lease.site ≡ site
  pub own : lease.start.want.transfer ≡ transfer
  pub gets : GetsLease (host_at old site) (host_at new site) transfer lease.start.number
  pub stays : StaysHost (host_at old site) (host_at new site)

-- or a ticket
pub record GotTicket {S : Type 0} (old new : PoolShown S) (site : ℕ) (want : Want) (ticket : Ticketed) : Type 0 where
  pub here : ticket.site ≡ site
  pub own : ticket.wait.want ≡ want
  pub gets : GetsTicket (host_at old site) (host_at new site) want
  pub stays : StaysHost (host_at old site) (host_at new site)

pub reply-starts : {S : Type 0} (site : ℕ) (reply : Reply) (lease : Leasing S) → IsAcquired site reply (gives.Lease lease) → (lease.site ≡ site) × (reply ≡ starts lease.start)
reply-starts site (starts start) lease e = (e.0, ap starts (sym e.1))
reply-starts site (waits_on wait) lease e = absurd e
reply-starts site _ lease e = absurd e

pub reply-waits : (S : Type 0) (site : ℕ) (reply : Reply) (ticket : Ticketed) → IsAcquired {S = S} site reply (gives.Wait ticket) → (ticket.site ≡ site) × (reply ≡ waits_on ticket.wait)
reply-waits S site (starts start) ticket e = absurd e
reply-waits S site (waits_on wait) ticket e = (ap (λ (t : Ticketed). t.site) e, ap (λ (t : Ticketed). waits_on t.wait) (sym e))
reply-waits S site _ ticket e = absurd e

module _ {S : Type 0} (old new : PoolShown S) (limits : Bounds) (site : ℕ) (want : Want) (moment : ℕ) (stays : StaysHost (host_at old site) (host_at new site)) where
  pub got-lease : (lease : Leasing S) → IsAcquired site (reply_of limits site want moment (all_hosts old)) (gives.Lease lease) → GetsLease (host_at old site) (host_at new site) want.transfer lease.start.number
      → GotLease old new site want.transfer lease
  got-lease lease is gets =
      let reply = reply-starts site (reply_of limits site want moment (all_hosts old)) lease is in
      record { here = reply.0; own = ap (λ (w : Want). w.transfer) (started-of limits site want moment (all_hosts old) lease.start reply.1); gets = gets; stays = stays }

  pub got-ticket : (ticket : Ticketed) → IsAcquired {S = S} site (reply_of limits site want moment (all_hosts old)) (gives.Wait ticket) → GetsTicket (host_at old site) (host_at new site) want
      → GotTicket old new site want ticket
  got-ticket ticket is gets =
      let reply = reply-waits S site (reply_of limits site want moment (all_hosts old)) ticket is in
      record { here = reply.0; own = waited-of limits site want moment (all_hosts old) ticket.wait reply.1; gets = gets; stays = stays }

-- the ticket that is kept of a site at rest, and whom tickets are kept of there
module _ (pool : PoolShown (Unit {0})) (site : ℕ) (there : site < length pool.hosts) (rest : IsAtRest pool.limits (all_hosts pool)) (places : AreInPlace pool) (kept : SiteLeases) (due : KeepsDue (host_at pool site) kept) (transfer : ℕ) (ticket : Ticketed) (is : Some ticket ≡ get nat_cmp kept.tickets transfer) where
  pub ticket-kept : IsTicketFor (host_at pool site) transfer ticket
  ticket-kept = kept-ticket (host_at pool site) (sound-at pool site there rest places) kept.tickets.entries transfer ticket due.keeps.tickets is

  pub kept-among : is_among transfer (keys kept.tickets) ≡ true
  kept-among = ticketed (host_at pool site) (sound-at pool site there rest places) kept.tickets.entries due.keeps.tickets transfer ∙ ap is_some ticket-kept.wants

-- a claim gives the lease of its ticket
pub granted-lease : {S : Type 0} (old new : PoolShown S) (site transfer : ℕ) (ticket : Ticketed) (lease : Leasing S) → (host_at old site).host ≡ site → IsTicketFor (host_at old site) transfer ticket
    → WasGranted (host_at old ticket.site) ticket.wait.want.transfer lease → lease.start.want ≡ ticket.wait.want
    → GetsLease (host_at old ticket.site) (host_at new ticket.site) ticket.wait.want.transfer lease.start.number → StaysHost (host_at old ticket.site) (host_at new ticket.site)
    → GotLease old new site transfer lease
granted-lease old new site transfer ticket lease place due granted want gets stays =
    let here : ticket.site ≡ site = due.site ∙ place in
    record {
      here = granted.1 ∙ ap (λ s. (host_at old s).host) here ∙ place;
      own = ap (λ (w : Want). w.transfer) want ∙ due.own;
      gets = subst (λ s. GetsLease (host_at old s) (host_at new s) transfer lease.start.number) here (subst (λ t. GetsLease (host_at old ticket.site) (host_at new ticket.site) t lease.start.number) due.own gets);
      stays = subst (λ s. StaysHost (host_at old s) (host_at new s)) here stays;
    }

-- what is asked of what is to be kept
module _ {S : Type 0} (old new : PoolShown S) (site transfer : ℕ) (lease : Leasing S) (got : GotLease old new site transfer lease) where
  pub lease-asks : (P : HostShown S → ℕ → Type 0) → P (host_at new site) transfer → P (host_at new lease.site) lease.start.want.transfer
  lease-asks P p = subst (λ s. P (host_at new s) lease.start.want.transfer) (sym got.here) (subst (λ t. P (host_at new site) t) (sym got.own) p)

  pub got-own : lease_number (host_at new lease.site) lease.start.want.transfer ≡ Some lease.start.number
  got-own = lease-asks (λ host t. lease_number host t ≡ Some lease.start.number) (lease-own (host_at old site) (host_at new site) transfer lease.start.number got.gets)

  pub got-spent : ticket_want (host_at new lease.site) lease.start.want.transfer ≡ None
  got-spent = lease-asks (λ host t. ticket_want host t ≡ None) (lease-no-ticket (host_at old site) (host_at new site) transfer lease.start.number got.gets)

  pub got-others : (leases : ℕ → Option (Leasing S)) → KeepsLeases (leases_of (host_at old site)) leases → lease_number (host_at old site) transfer ≡ None
      → KeepsLeases (due_others lease.start.want.transfer (leases_of (host_at new lease.site))) leases
  got-others leases keeps none =
      lease-asks (λ host t. KeepsLeases (due_others t (leases_of host)) leases)
      (lease-awaits (host_at old site) (host_at new site) (same-whereabouts (host_at old site) (host_at new site) got.stays.same) transfer lease.start.number leases keeps none got.gets)

  -- it holds that connection
  pub got-held : held_number (log_at (all_hosts new) site) transfer ≡ Some lease.start.number
  got-held =
      ap (λ log. held_number log transfer) (log_is new site)
      ∙ leased-held (host_at new site) transfer lease.start.number (lease-own (host_at old site) (host_at new site) transfer lease.start.number got.gets)

  -- and once it is kept, or given up
  module _ (final : PoolShown S) (still : StaysHost (host_at new lease.site) (host_at final lease.site)) where
    pub lease-stays : StaysHost (host_at old site) (host_at final site)
    lease-stays = stays_host_on (host_at old site) (host_at new site) (host_at final site) got.stays (subst (λ s. StaysHost (host_at new s) (host_at final s)) got.here still)

    pub lease-others : StaysPool old new → KeepsOtherHosts site old new → KeepsOtherHosts lease.site new final → KeepsOtherHosts site old final
    lease-others stays first next = keeps_others_on site old new final stays first (subst (λ s. KeepsOtherHosts s new final) got.here next)

module _ {S : Type 0} (old new : PoolShown S) (site : ℕ) (want : Want) (ticket : Ticketed) (got : GotTicket old new site want ticket) where
  pub ticket-asks : (P : HostShown S → Want → Type 0) → P (host_at new site) want → P (host_at new ticket.site) ticket.wait.want
  ticket-asks P p = subst (λ s. P (host_at new s) ticket.wait.want) (sym got.here) (subst (λ w. P (host_at new site) w) (sym got.own) p)

  pub got-wanted : ticket_want (host_at new ticket.site) ticket.wait.want.transfer ≡ Some ticket.wait.want
  got-wanted = ticket-asks (λ host w. ticket_want host w.transfer ≡ Some w) (ticket-own (host_at old site) (host_at new site) want got.gets)

  pub got-unleased : lease_number (host_at old site) want.transfer ≡ None → lease_number (host_at new ticket.site) ticket.wait.want.transfer ≡ None
  got-unleased none = ticket-asks (λ host w. lease_number host w.transfer ≡ None) (got.gets.leases want.transfer ∙ none)

  pub got-other-tickets : (tickets : ℕ → Option Ticketed) → KeepsTickets (tickets_of (host_at old site)) tickets → ticket_want (host_at old site) want.transfer ≡ None
      → KeepsTickets (due_others ticket.wait.want.transfer (tickets_of (host_at new ticket.site))) tickets
  got-other-tickets tickets keeps none =
      ticket-asks (λ host w. KeepsTickets (due_others w.transfer (tickets_of host)) tickets)
      (ticket-awaits (host_at old site) (host_at new site) (same-whereabouts (host_at old site) (host_at new site) got.stays.same) want tickets keeps none got.gets)

  module _ (final : PoolShown S) (still : StaysHost (host_at new ticket.site) (host_at final ticket.site)) where
    pub ticket-stays : StaysHost (host_at old site) (host_at final site)
    ticket-stays = stays_host_on (host_at old site) (host_at new site) (host_at final site) got.stays (subst (λ s. StaysHost (host_at new s) (host_at final s)) got.here still)

    pub ticket-others : StaysPool old new → KeepsOtherHosts site old new → KeepsOtherHosts ticket.site new final → KeepsOtherHosts site old final
    ticket-others stays first next = keeps_others_on site old new final stays first (subst (λ s. KeepsOtherHosts s new final) got.here next)

-- what is kept of the site then: of a lease where the transfer had no ticket, or its ticket is taken out
module _ (old new final : PoolShown (Unit {0})) (site transfer : ℕ) (lease : Leasing (Unit {0})) (got : GotLease old new site transfer lease) (still : StaysHost (host_at new lease.site) (host_at final lease.site)) (kept : SiteLeases) (due : KeepsDue (host_at old site) kept) (leases : BTreeMap ℕ (Leasing (Unit {0}))) (after : KeepsLeases (leases_of (host_at final lease.site)) (get nat_cmp leases)) (same : (t : ℕ) → ticket_want (host_at final lease.site) t ≡ ticket_want (host_at new lease.site) t) (ordered : IsOrdered nat_cmp leases) where
  pub started-due : ticket_want (host_at old site) transfer ≡ None → KeepsDue (host_at final site) (record kept { leases = leases })
  started-due none = record {
    keeps = started-kept (host_at old site) (host_at new site) (host_at final site) (same-whereabouts (host_at old site) (host_at final site) (lease-stays old new site transfer lease got final still).same)
        transfer lease.start.number (get nat_cmp kept.leases) (get nat_cmp leases) (get nat_cmp kept.tickets) due.keeps none got.gets
        (subst (λ s. KeepsLeases (leases_of (host_at final s)) (get nat_cmp leases)) got.here after)
        (subst (λ s. (t : ℕ) → ticket_want (host_at final s) t ≡ ticket_want (host_at new s) t) got.here same);
    holders = ordered;
    waiters = due.waiters;
    uncut = (lease-stays old new site transfer lease got final still).same.cut_away ∙ due.uncut;
  }

  pub claimed-due : (others : BTreeMap ℕ Ticketed) → ((q : ℕ) → get nat_cmp others q ≡ cond (is_at (nat_cmp transfer) q) None (get nat_cmp kept.tickets q)) → IsOrdered nat_cmp others
      → KeepsDue (host_at final site) (record { leases = leases; tickets = others })
  claimed-due others taken waiters = record {
    keeps = claimed-kept (host_at old site) (host_at new site) (host_at final site) (same-whereabouts (host_at old site) (host_at final site) (lease-stays old new site transfer lease got final still).same)
        transfer lease.start.number (get nat_cmp kept.leases) (get nat_cmp leases) (get nat_cmp kept.tickets) (get nat_cmp others) due.keeps taken got.gets
        (subst (λ s. KeepsLeases (leases_of (host_at final s)) (get nat_cmp leases)) got.here after)
        (subst (λ s. (t : ℕ) → ticket_want (host_at final s) t ≡ ticket_want (host_at new s) t) got.here same);
    holders = ordered;
    waiters = waiters;
    uncut = (lease-stays old new site transfer lease got final still).same.cut_away ∙ due.uncut;
  }

-- and of a ticket
pub waited-due : (old final : HostShown (Unit {0})) (kept : SiteLeases) (tickets : BTreeMap ℕ Ticketed) → StaysHost old final → KeepsDue old kept → ((t : ℕ) → lease_number final t ≡ lease_number old t)
    → KeepsTickets (tickets_of final) (get nat_cmp tickets) → IsOrdered nat_cmp tickets → KeepsDue final (record kept { tickets = tickets })
waited-due old final kept tickets stays due same after ordered = record {
  keeps = record {
    leases = kept-due lease_facts (leases_of old) (leases_of final) (get nat_cmp kept.leases) due.keeps.leases
        (leases-same old final (same-whereabouts old final stays.same) 0 same);
    tickets = after;
  };
  holders = due.holders;
  waiters = ordered;
  uncut = stays.same.cut_away ∙ due.uncut;
}

pub ticketed-due : (old new final : PoolShown (Unit {0})) (site : ℕ) (want : Want) (ticket : Ticketed) → GotTicket old new site want ticket → StaysHost (host_at new ticket.site) (host_at final ticket.site)
    → (kept : SiteLeases) → KeepsDue (host_at old site) kept → (tickets : BTreeMap ℕ Ticketed) → KeepsTickets (tickets_of (host_at final ticket.site)) (get nat_cmp tickets)
    → ((t : ℕ) → lease_number (host_at final ticket.site) t ≡ lease_number (host_at new ticket.site) t) → IsOrdered nat_cmp tickets → KeepsDue (host_at final site) (record kept { tickets = tickets })
ticketed-due old new final site want ticket got still kept due tickets after same ordered =
    let same_here = subst (λ s. (t : ℕ) → lease_number (host_at final s) t ≡ lease_number (host_at new s) t) got.here same in
    waited-due (host_at old site) (host_at final site) kept tickets (ticket-stays old new site want ticket got final still) due (λ t. same_here t ∙ got.gets.leases t)
    (subst (λ s. KeepsTickets (tickets_of (host_at final s)) (get nat_cmp tickets)) got.here after) ordered

-- a ticket that is claimed too early waits on
pub record StillWaits {S : Type 0} (pool new : PoolShown S) (site transfer : ℕ) (ticket : Ticketed) : Type 0 where
  pub same : new ≡ pool
  pub here : ticket.site ≡ site
  pub own : ticket.wait.want.transfer ≡ transfer
  pub wants : ticket_want (host_at pool site) transfer ≡ Some ticket.wait.want
  pub unclaimed : is_unclaimed (host_at pool site) transfer ≡ false

pub still-waits : {S : Type 0} (pool new : PoolShown S) (site transfer : ℕ) (ticket again : Ticketed) → (host_at pool site).host ≡ site → IsTicketFor (host_at pool site) transfer ticket
    → (is_unclaimed (host_at pool ticket.site) ticket.wait.want.transfer ≡ false) × (again ≡ ticket) × (new ≡ pool) → StillWaits pool new site transfer again
still-waits pool new site transfer ticket again place due still =
    let here : ticket.site ≡ site = due.site ∙ place in
    record {
      same = still.2;
      here = ap (λ (t : Ticketed). t.site) still.1 ∙ here;
      own = ap (λ (t : Ticketed). t.wait.want.transfer) still.1 ∙ due.own;
      wants = due.wants ∙ ap (λ (t : Ticketed). Some t.wait.want) (sym still.1);
      unclaimed = subst (λ s. is_unclaimed (host_at pool s) transfer ≡ false) here (subst (λ t. is_unclaimed (host_at pool ticket.site) t ≡ false) due.own still.0);
    }

-- it is of that pool as before
pub still-here : {S : Type 0} (pool new : PoolShown S) (ticket again : Ticketed) → IsTicketHere pool ticket → again ≡ ticket → new ≡ pool → IsTicketHere new again
still-here {S} pool new ticket again made same is = subst (λ (p : PoolShown S). IsTicketHere p again) (sym is) (subst (λ (t : Ticketed). IsTicketHere pool t) (sym same) made)

module _ {S : Type 0} (pool new : PoolShown S) (site transfer : ℕ) (ticket : Ticketed) (still : StillWaits pool new site transfer ticket) where
  still-asks : (P : HostShown S → ℕ → Type 0) → P (host_at pool site) transfer → P (host_at new ticket.site) ticket.wait.want.transfer
  still-asks P p =
      subst (λ (x : PoolShown S). P (host_at x ticket.site) ticket.wait.want.transfer) (sym still.same)
      (subst (λ s. P (host_at pool s) ticket.wait.want.transfer) (sym still.here) (subst (λ t. P (host_at pool site) t) (sym still.own) p))

  pub still-unleased : IsSound (host_at pool site).settings (host_at pool site).log → lease_number (host_at new ticket.site) ticket.wait.want.transfer ≡ None
  still-unleased sound = still-asks (λ host t. lease_number host t ≡ None) (ticket-no-lease (host_at pool site) sound transfer ticket.wait.want still.wants)

  pub still-others : (tickets : ℕ → Option Ticketed) → KeepsTickets (due_others transfer (tickets_of (host_at pool site))) tickets
      → KeepsTickets (due_others ticket.wait.want.transfer (tickets_of (host_at new ticket.site))) tickets
  still-others tickets keeps = still-asks (λ host t. KeepsTickets (due_others t (tickets_of host)) tickets) keeps

  -- it holds nothing
  pub still-held : IsSound (host_at pool site).settings (host_at pool site).log → held_number (log_at (all_hosts pool) site) transfer ≡ None
  still-held sound = ap (λ log. held_number log transfer) (log_is pool site) ∙ still-unheld (host_at pool site) sound transfer ticket.wait.want still.unclaimed still.wants

  module _ (final : PoolShown S) where
    pub at-its-site : (P : HostShown S → HostShown S → Type 0) → P (host_at new ticket.site) (host_at final ticket.site) → P (host_at pool site) (host_at final site)
    at-its-site P p = subst (λ s. P (host_at pool s) (host_at final s)) still.here (subst (λ (x : PoolShown S). P (host_at x ticket.site) (host_at final ticket.site)) still.same p)

    pub still-others-keep : KeepsOtherHosts ticket.site new final → KeepsOtherHosts site pool final
    still-others-keep others = subst (λ s. KeepsOtherHosts s pool final) still.here (subst (λ (x : PoolShown S). KeepsOtherHosts ticket.site x final) still.same others)

pub still-due : (pool new final : PoolShown (Unit {0})) (site transfer : ℕ) (ticket : Ticketed) → StillWaits pool new site transfer ticket → StaysHost (host_at new ticket.site) (host_at final ticket.site)
    → (kept : SiteLeases) → KeepsDue (host_at pool site) kept → (tickets : BTreeMap ℕ Ticketed) → KeepsTickets (tickets_of (host_at final ticket.site)) (get nat_cmp tickets)
    → ((t : ℕ) → lease_number (host_at final ticket.site) t ≡ lease_number (host_at new ticket.site) t) → IsOrdered nat_cmp tickets → KeepsDue (host_at final site) (record kept { tickets = tickets })
still-due pool new final site transfer ticket still stays kept due tickets after same ordered =
    waited-due (host_at pool site) (host_at final site) kept tickets (at-its-site pool new site transfer ticket still final (λ x y. StaysHost x y) stays) due
    (at-its-site pool new site transfer ticket still final (λ x y. (t : ℕ) → lease_number y t ≡ lease_number x t) same)
    (subst (λ s. KeepsTickets (tickets_of (host_at final s)) (get nat_cmp tickets)) still.here after) ordered

-- a ticket that is kept of a site is no stranger there
pub no-stray : {S : Type 0} (pool : PoolShown S) (site transfer : ℕ) (ticket : Ticketed) → (host_at pool site).host ≡ site → IsTicketFor (host_at pool site) transfer ticket
    → is_valid_ticket (host_at pool ticket.site) ticket.wait.want ≡ false → ⊥
no-stray pool site transfer ticket place due strange =
    let here : ticket.site ≡ site = due.site ∙ place in
    let valid = kept-valid (host_at pool site) transfer ticket.wait.want due.wants due.own in
    let both : true ≡ false = sym valid ∙ subst (λ s. is_valid_ticket (host_at pool s) ticket.wait.want ≡ false) here strange in
    cc

-- by the result
pub on-ok : {T E A B : Type 0} (r : Result T E) → (A → B) → OnOk r A → OnOk r B
on-ok (Ok t) f a = f a
on-ok (Err e) f a = tt

pub on-err : {T E A B : Type 0} (r : Result T E) → (A → B) → OnErr r A → OnErr r B
on-err (Ok t) f a = tt
on-err (Err e) f a = f a

pub on-both-ok : {T E A B C : Type 0} (r : Result T E) → (A → B → C) → OnOk r A → OnOk r B → OnOk r C
on-both-ok (Ok t) f a b = f a b
on-both-ok (Err e) f a b = tt

pub on-both-err : {T E A B C : Type 0} (r : Result T E) → (A → B → C) → OnErr r A → OnErr r B → OnErr r C
on-both-err (Ok t) f a b = tt
on-both-err (Err e) f a b = f a b

-- the logs only grow meanwhile
module _ {S T E : Type 0} (r : Result T E) (by : ℕ) (new final : PoolShown S) (same : OnOk r (final ≡ new)) where
  by-result : {A : Type 0} → OnErr r A → (A → AllGrowAfter by (all_hosts new) (all_hosts final)) → AllGrowAfter by (all_hosts new) (all_hosts final)
  by-result {A = A} e f = by_r r same e
    where
      by_r : (x : Result T E) → OnOk x (final ≡ new) → OnErr x A → AllGrowAfter by (all_hosts new) (all_hosts final)
      by_r (Ok t) ok err = subst (λ pool. AllGrowAfter by (all_hosts new) (all_hosts pool)) (sym ok) (same-grow by (all_hosts new))
      by_r (Err x) ok err = f err

  pub lease-grows : (limits : Bounds) (site c : ℕ) → OnErr r (all_hosts final ≡ after_abandoning limits site c 0 (all_hosts new)) → AllGrowAfter by (all_hosts new) (all_hosts final)
  lease-grows limits site c e = by-result e (λ is. subst (AllGrowAfter by (all_hosts new)) (sym is) (abandoned-grow by limits site c 0 (all_hosts new)))

  pub ticket-grows : (limits : Bounds) (site transfer : ℕ) → OnErr r (all_hosts final ≡ after_withdrawing limits site transfer 0 (all_hosts new)) → AllGrowAfter by (all_hosts new) (all_hosts final)
  ticket-grows limits site transfer e = by-result e (λ is. subst (AllGrowAfter by (all_hosts new)) (sym is) (withdrawn-grow by limits site transfer 0 (all_hosts new)))
