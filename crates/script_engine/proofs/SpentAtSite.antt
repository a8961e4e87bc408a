-- What becomes of a site's leases and tickets where a transfer spends what it has there.
use Rattle.std.specs.Prelude.{if◌then◌else◌, codes, slice_set, slice_index_or}
use Rattle.std.proofs.Common.{Bool, false, map, Result, ◌≡◌, ℕ, ◌<◌, true, cond, List, length, ap, sym, ◌∙◌, subst, Some, None, is_some}
use Rattle.std.specs.Option.{option_map}
use Rattle.std.specs.Ordering.{nat_cmp}
use Rattle.std.specs.Map.{keys_of, remove_entry}
use Rattle.std.specs.BTreeMap.{BTreeMap, get, keys, is_at, IsOrdered}
use Rattle.std.proofs.lemmas.List.{length-map}
use Rattle.budget.specs.Limits.{Bounds}
use Rattle.conn_log.specs.declared.entry.Entry.{Entry}
use Rattle.conn_log.specs.Connections.{is_among, held_number}
use Rattle.conn_log.specs.Legal.{LimitAndFirst}
use Rattle.conn_log.specs.Sound.{IsSound}
use Rattle.bundle.specs.Lease.{HostShown, Leasing, Ticketed, lease_number, is_valid_ticket, Spends}
use Rattle.cache.specs.AllHosts.{AllHosts, terms, log_at, IsAtRest}
use Rattle.cache.specs.Calls.{after_giving_back, after_abandoning, after_withdrawing}
use Rattle.cache.specs.Pools.{PoolShown, host_at, all_hosts, AreInPlace, StaysHost, KeepsOtherHosts, StaysPool, IsMadeHere, IsTicketHere, logs_of}
use Rattle.cache.proofs.OneHost.{log_is}
use Rattle.script_text.specs.declared.command.Action.{Action}
use Rattle.script_text.specs.declared.command.Ending.{Ending}
use Rattle.script_text.specs.declared.fault.FaultKind.{FaultKind}
use Rattle.script_text.specs.Printing.{GivesText, refused}
use Rattle.script_engine.specs.declared.site_leases.SiteLeases.{SiteLeases}
use Rattle.script_engine.specs.Hosted.{KeepsDue, KeepsAllDue, NoneIsCut, AreHosted, GivesAt, kept_at, lease_facts}
use Rattle.script_engine.specs.Telling.{AllGrowAfter, WereTold, lines_told}
use Rattle.script_engine.specs.Meaning.{AtSite, act_at, claimed_number, back_at, drop_at, leave_at, grown, stranger, facts_of_ending, without_ticket}
use Rattle.script_engine.proofs.Tickets.{among-keys, keys-removed}
use Rattle.script_engine.proofs.Leases.{leased-held, same-whereabouts, kept-valid}
use Rattle.script_engine.proofs.GrowthOfAll.{given-back-grow, abandoned-grow, withdrawn-grow}
use Rattle.script_engine.proofs.Spending.{IsKeptFor, IsTicketFor, kept-lease, kept-none, kept-ticket, ticket-made, ticketed, leased-by-keys, lease-spent, ticket-spent}
use Rattle.script_engine.proofs.Answering.{gives-answer, gives-grown, back-taken, back-stranger, drop-taken, drop-stranger, leave-taken, leave-stranger}
use Rattle.script_engine.proofs.PooledSites.{none-cut, shown, kept-there, due-after, gives-at, told-before, text-of-growth}

-- the log of a host that is there is sound, where the pool is at rest
module _ {S : Type 0} (pool : PoolShown S) (rest : IsAtRest pool.limits (all_hosts pool)) (places : AreInPlace pool) (site : ℕ) (there : site < length pool.hosts) where
  pub logged : site < length (all_hosts pool).logs
  logged = subst (λ (n : ℕ). site < n) (sym (length-map pool.hosts (λ (h : HostShown S). h.log))) there

  pub sound-there : IsSound (terms pool.limits) (host_at pool site).log
  sound-there = subst (λ (log : List Entry). IsSound (terms pool.limits) log) (log_is pool site) (rest.lawful.settled site logged).sound

  pub sound-at : IsSound (host_at pool site).settings (host_at pool site).log
  sound-at = subst (λ (settings : LimitAndFirst). IsSound settings (host_at pool site).log) (sym (places site there).settings) sound-there

-- all logs grow where a lease is abandoned, and where a ticket is withdrawn
module _ (by : ℕ) (limits : Bounds) (site : ℕ) (old new : AllHosts) where
  pub drop-grow : (c moment : ℕ) → new ≡ after_abandoning limits site c moment old → AllGrowAfter by old new
  drop-grow c moment all = subst (AllGrowAfter by old) (sym all) (abandoned-grow by limits site c moment old)

  pub leave-grow : (transfer moment : ℕ) → new ≡ after_withdrawing limits site transfer moment old → AllGrowAfter by old new
  leave-grow transfer moment all = subst (AllGrowAfter by old) (sym all) (withdrawn-grow by limits site transfer moment old)

-- other hosts keep all, whichever way the host that changes is named
pub others-at : {S : Type 0} (pool new : PoolShown S) (named site : ℕ) → named ≡ site → KeepsOtherHosts named pool new → KeepsOtherHosts site pool new
others-at pool new named site at others = subst (λ (one : ℕ). KeepsOtherHosts one pool new) at others

module _ (pool : PoolShown (Unit {0})) (rest : IsAtRest pool.limits (all_hosts pool)) (places : AreInPlace pool) (site : ℕ) (there : site < length pool.hosts) (kept : SiteLeases) (keeps : KeepsDue (host_at pool site) kept) (transfer : ℕ) where
  sound : IsSound (host_at pool site).settings (host_at pool site).log
  sound = sound-at pool rest places site there

  claimed-is : claimed_number site (kept_at pool kept) transfer ≡ lease_number (host_at pool site) transfer
  claimed-is = leased-by-keys (host_at pool site) sound kept.tickets.entries keeps.keeps.tickets site (all_hosts pool) (log_is pool site) transfer

  -- a transfer that has no lease is a stranger, and so is one that has no ticket
  none-claimed : get nat_cmp kept.leases transfer ≡ None → claimed_number site (kept_at pool kept) transfer ≡ None
  none-claimed none = claimed-is ∙ kept-none (host_at pool site) transfer (ap (option_map lease_facts) (sym none) ∙ keeps.keeps.leases transfer)

  pub back-unleased : (ending : Ending) (moment : ℕ) → get nat_cmp kept.leases transfer ≡ None → back_at pool.limits site transfer ending moment (kept_at pool kept) ≡ stranger (kept_at pool kept)
  back-unleased ending moment none = back-stranger pool.limits site transfer ending moment (kept_at pool kept) (none-claimed none)

  pub drop-unleased : (moment : ℕ) → get nat_cmp kept.leases transfer ≡ None → drop_at pool.limits site transfer moment (kept_at pool kept) ≡ stranger (kept_at pool kept)
  drop-unleased moment none = drop-stranger pool.limits site transfer moment (kept_at pool kept) (none-claimed none)

  pub leave-unticketed : (moment : ℕ) (left : BTreeMap ℕ Ticketed) → get nat_cmp kept.tickets transfer ≡ None → left.entries ≡ kept.tickets.entries
      → leave_at pool.limits site transfer moment (kept_at pool kept) ≡ stranger (kept_at pool (record kept { tickets = left }))
  leave-unticketed moment left none same =
      leave-stranger pool.limits site transfer moment (kept_at pool kept) (among-keys kept.tickets.entries transfer ∙ ap is_some none)
      ∙ ap (λ tickets. stranger (record { all = all_hosts pool; tickets = tickets })) (ap keys_of (sym same))

  -- the lease that is kept for the transfer
  module _ (lease : Leasing (Unit {0})) (is : get nat_cmp kept.leases transfer ≡ Some lease) where
    pub lease-kept : IsKeptFor (host_at pool site) transfer lease
    lease-kept = kept-lease (host_at pool site) transfer lease (ap (option_map lease_facts) (sym is) ∙ keeps.keeps.leases transfer)

    pub lease-at : lease.site ≡ site
    lease-at = lease-kept.site ∙ (places site there).place

    pub made-here : IsMadeHere pool lease
    made-here = record {
      there = subst (λ (at : ℕ). at < length pool.hosts) (sym lease-at) there;
      tables = lease-kept.tables ∙ ap (λ (at : ℕ). (host_at pool at).tables) (sym lease-at);
    }

    claimed : claimed_number site (kept_at pool kept) transfer ≡ Some lease.start.number
    claimed = claimed-is ∙ lease-kept.leased

    pub held-at : held_number (log_at (all_hosts pool) site) transfer ≡ Some lease.start.number
    held-at = ap (λ (log : List Entry). held_number log transfer) (log_is pool site) ∙ leased-held (host_at pool site) transfer lease.start.number lease-kept.leased

    -- it is taken out and spent
    module _ (new : PoolShown (Unit {0})) (left : BTreeMap ℕ (Leasing (Unit {0}))) where
      pub keeps-lease-spent : ((q : ℕ) → get nat_cmp left q ≡ cond (is_at (nat_cmp transfer) q) None (get nat_cmp kept.leases q)) → IsOrdered nat_cmp left
          → Spends (host_at pool lease.site) (host_at new lease.site) lease.start.want.transfer → StaysHost (host_at pool lease.site) (host_at new lease.site)
          → KeepsDue (host_at new site) (record kept { leases = left })
      keeps-lease-spent taken ordered spends stays =
          let spends_here : Spends (host_at pool site) (host_at new site) transfer = rw (sym lease-at, sym lease-kept.own) spends in
          let stays_here : StaysHost (host_at pool site) (host_at new site) = rw (sym lease-at) stays in
          record {
            keeps = lease-spent (host_at pool site) (host_at new site) (same-whereabouts (host_at pool site) (host_at new site) stays_here.same) sound transfer
                (get nat_cmp kept.leases) (get nat_cmp left) (get nat_cmp kept.tickets) lease.start.number keeps.keeps lease-kept.leased taken spends_here;
            holders = ordered;
            waiters = keeps.waiters;
            uncut = stays_here.same.cut_away ∙ keeps.uncut;
          }

      pub back-spent : (ending : Ending) (moment : ℕ) → all_hosts new ≡ after_giving_back pool.limits lease.site lease.start.number (facts_of_ending ending) moment (all_hosts pool)
          → back_at pool.limits site transfer ending moment (kept_at pool kept) ≡ grown (kept_at pool kept) (kept_at new (record kept { leases = left }))
      back-spent ending moment all =
          back-taken pool.limits site transfer ending moment (kept_at pool kept) lease.start.number claimed
          ∙ ap (λ (hosts : AllHosts). grown (kept_at pool kept) (record { all = hosts; tickets = keys kept.tickets })) (ap (λ (at : ℕ). after_giving_back pool.limits at lease.start.number (facts_of_ending ending) moment (all_hosts pool)) (sym lease-at) ∙ sym all)

      pub back-grow : (ending : Ending) (moment : ℕ) → all_hosts new ≡ after_giving_back pool.limits lease.site lease.start.number (facts_of_ending ending) moment (all_hosts pool) → AllGrowAfter transfer (all_hosts pool) (all_hosts new)
      back-grow ending moment all =
          subst (λ (hosts : AllHosts). AllGrowAfter transfer (all_hosts pool) hosts)
          (ap (λ (at : ℕ). after_giving_back pool.limits at lease.start.number (facts_of_ending ending) moment (all_hosts pool)) (sym lease-at) ∙ sym all)
          (given-back-grow transfer pool.limits site lease.start.number (facts_of_ending ending) moment (all_hosts pool) rest.lawful (logged pool rest places site there) held-at)

      pub drop-spent : (moment : ℕ) → all_hosts new ≡ after_abandoning pool.limits lease.site lease.start.number moment (all_hosts pool)
          → drop_at pool.limits site transfer moment (kept_at pool kept) ≡ grown (kept_at pool kept) (kept_at new (record kept { leases = left }))
      drop-spent moment all =
          drop-taken pool.limits site transfer moment (kept_at pool kept) lease.start.number claimed
          ∙ ap (λ (hosts : AllHosts). grown (kept_at pool kept) (record { all = hosts; tickets = keys kept.tickets })) (ap (λ (at : ℕ). after_abandoning pool.limits at lease.start.number moment (all_hosts pool)) (sym lease-at) ∙ sym all)

  -- the ticket that is kept for the transfer
  module _ (ticket : Ticketed) (is : get nat_cmp kept.tickets transfer ≡ Some ticket) where
    pub ticket-kept : IsTicketFor (host_at pool site) transfer ticket
    ticket-kept = kept-ticket (host_at pool site) sound kept.tickets.entries transfer ticket keeps.keeps.tickets (sym is)

    pub ticket-at : ticket.site ≡ site
    ticket-at = ticket-kept.site ∙ (places site there).place

    pub ticket-here : IsTicketHere pool ticket
    ticket-here = ticket-made pool site transfer ticket there (places site there).place ticket-kept

    pub ticket-valid : is_valid_ticket (host_at pool ticket.site) ticket.wait.want ≡ true
    ticket-valid = subst (λ (at : ℕ). is_valid_ticket (host_at pool at) ticket.wait.want ≡ true) (sym ticket-at) (kept-valid (host_at pool site) transfer ticket.wait.want ticket-kept.wants ticket-kept.own)

    -- it is taken out and spent
    module _ (new : PoolShown (Unit {0})) (left : BTreeMap ℕ Ticketed) where
      pub keeps-ticket-spent : ((q : ℕ) → get nat_cmp left q ≡ cond (is_at (nat_cmp transfer) q) None (get nat_cmp kept.tickets q)) → IsOrdered nat_cmp left
          → Spends (host_at pool ticket.site) (host_at new ticket.site) ticket.wait.want.transfer → StaysHost (host_at pool ticket.site) (host_at new ticket.site)
          → KeepsDue (host_at new site) (record kept { tickets = left })
      keeps-ticket-spent taken ordered spends stays =
          let spends_here : Spends (host_at pool site) (host_at new site) transfer = rw (sym ticket-at, sym ticket-kept.own) spends in
          let stays_here : StaysHost (host_at pool site) (host_at new site) = rw (sym ticket-at) stays in
          record {
            keeps = ticket-spent (host_at pool site) (host_at new site) (same-whereabouts (host_at pool site) (host_at new site) stays_here.same) sound transfer
                (get nat_cmp kept.leases) (get nat_cmp kept.tickets) (get nat_cmp left) ticket.wait.want keeps.keeps ticket-kept.wants taken spends_here;
            holders = keeps.holders;
            waiters = ordered;
            uncut = stays_here.same.cut_away ∙ keeps.uncut;
          }

      pub leave-spent : (moment : ℕ) → left.entries ≡ remove_entry (is_at (nat_cmp transfer)) kept.tickets.entries
          → all_hosts new ≡ after_withdrawing pool.limits ticket.site ticket.wait.want.transfer moment (all_hosts pool)
          → leave_at pool.limits site transfer moment (kept_at pool kept) ≡ grown (kept_at pool kept) (kept_at new (record kept { tickets = left }))
      leave-spent moment taken all =
          let among : is_among transfer (keys kept.tickets) ≡ true = ticketed (host_at pool site) sound kept.tickets.entries keeps.keeps.tickets transfer ∙ ap is_some ticket-kept.wants in
          let fewer : keys left ≡ without_ticket transfer (keys kept.tickets) = ap keys_of taken ∙ keys-removed kept.tickets.entries transfer in
          let same : all_hosts new ≡ after_withdrawing pool.limits site transfer moment (all_hosts pool) =
          all ∙ ap (λ (at : ℕ). after_withdrawing pool.limits at ticket.wait.want.transfer moment (all_hosts pool)) ticket-at
          ∙ ap (λ (t : ℕ). after_withdrawing pool.limits site t moment (all_hosts pool)) ticket-kept.own in
          leave-taken pool.limits site transfer moment (kept_at pool kept) among
          ∙ ap (λ (hosts : AllHosts). grown (kept_at pool kept) (record { all = hosts; tickets = without_ticket transfer (keys kept.tickets) })) (sym same)
          ∙ ap (λ (tickets : List ℕ). grown (kept_at pool kept) (record { all = all_hosts new; tickets = tickets })) (sym fewer)

-- a command that spends what the transfer has at a site, or answers that it is a stranger
module _ (pool new : PoolShown (Unit {0})) (kept : List SiteLeases) (told : List ℕ) (hosted : AreHosted pool kept told) (site : ℕ) (there : site < length (logs_of pool.hosts))
    (was here : SiteLeases) (is : was ≡ slice_index_or kept site was) (transfer : ℕ) (grow : AllGrowAfter transfer (all_hosts pool) (all_hosts new)) (keeps : KeepsDue (host_at new site) here)
    (others : KeepsOtherHosts site pool new) (stays : StaysPool pool new) where
  placed : site < length kept
  placed = kept-there pool kept hosted.due_kept site there

  due : KeepsAllDue new (slice_set kept site here)
  due = due-after pool kept hosted.due_kept site new here placed others stays keeps

  -- once all that was added is told
  pub hosted-told : (now : List ℕ) → now ≡ map length (logs_of new.hosts) → AreHosted new (slice_set kept site here) now
  hosted-told now all = record { due_kept = due; all_told = all }

  -- where nothing was added
  pub hosted-same : kept_at new here ≡ kept_at pool was → AreHosted new (slice_set kept site here) told
  hosted-same same = record { due_kept = due; all_told = hosted.all_told ∙ ap (λ (at : AtSite). map length at.all.logs) (sym same) }

  pub lines-due : WereTold told (logs_of new.hosts)
  lines-due = told-before transfer (all_hosts pool) (all_hosts new) told hosted.all_told grow

  pub lines-uncut : NoneIsCut new
  lines-uncut = none-cut new (slice_set kept site here) due

  -- what is answered
  module _ {T : Type 0} (bytes : T → List ℕ) (action : Action) (did : Bool) (answer : act_at pool.limits site (kept_at pool was) action ≡ (if did then grown (kept_at pool was) (kept_at new here) else stranger (kept_at new here))) (r : Result T FaultKind) where
    pub gives-spent : did ≡ true → GivesText bytes (lines_told transfer 0 told (logs_of new.hosts)) r → GivesAt bytes (shown pool kept) site action r (shown new (slice_set kept site here))
    gives-spent done gives =
        let spent : act_at pool.limits site (kept_at pool was) action ≡ grown (kept_at pool was) (kept_at new here) = answer ∙ ap (λ (b : Bool). cond b (grown (kept_at pool was) (kept_at new here)) (stranger (kept_at new here))) done in
        gives-at pool kept hosted.due_kept site bytes action r new was here placed is stays
        (gives-grown bytes pool.limits site (kept_at pool was) action (kept_at new here) r spent (text-of-growth bytes transfer (all_hosts pool) (all_hosts new) told r hosted.all_told grow gives))

    pub gives-stranger : did ≡ false → GivesText bytes (refused (codes "stranger")) r → GivesAt bytes (shown pool kept) site action r (shown new (slice_set kept site here))
    gives-stranger undone gives =
        let none : act_at pool.limits site (kept_at pool was) action ≡ stranger (kept_at new here) = answer ∙ ap (λ (b : Bool). cond b (grown (kept_at pool was) (kept_at new here)) (stranger (kept_at new here))) undone in
        gives-at pool kept hosted.due_kept site bytes action r new was here placed is stays
        (gives-answer bytes pool.limits site (kept_at pool was) action (kept_at new here) (refused (codes "stranger")) r none gives)
