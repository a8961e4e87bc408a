-- A call of one host's bundle is a call at one host of the pool: the host was read, called, and written back.
use Rattle.std.proofs.Common.{◌≡◌, ℕ, ◌<◌, true, false, List, length, slice_set, slice_index_or, Result, Ok, Err, refl, sym, subst, ◌∙◌}
use Rattle.std.specs.Prelude.{IfOk, IfErr, OnOk, OnErr}
use Rattle.std.proofs.lemmas.List.{length-set}
use Rattle.budget.specs.Limits.{Bounds}
use Rattle.conn_log.specs.declared.entry.Want.{Want}
use Rattle.conn_log.specs.Connections.{is_open}
use Rattle.conn_log.specs.Sound.{IsSound}
use Rattle.host_state.specs.Calls.{Reply}
use Rattle.bundle.specs.declared.answers.Acquired.TheVariants.{Lease, Wait}
use Rattle.bundle.specs.declared.answers.Claimed.{Claimed}
use Rattle.bundle.specs.declared.answers.Claimed.TheVariants.{Lease as Granted, Still}
use Rattle.bundle.specs.Replies.{IfClaimed, IfStill}
use Rattle.bundle.specs.Starts.{StartsLease, BeginsWait, ClaimsLease}
use Rattle.bundle.specs.Lease.{HostShown, Leasing, Ticketed, KeepsStreams, KeepsOthers, KeepsItsStream, WasGranted, Spends, is_held_lease, is_valid_ticket, is_unclaimed}
use Rattle.cache.specs.AllHosts.{AllHosts}
use Rattle.cache.specs.Pools.{PoolShown, host_at, all_hosts, IsAcquired, StaysHost, KeepsHost, StreamsStay, OtherStreamsStay}
use Rattle.cache.specs.PoolCalls.{IsCallAt, IsCallAtAll, IsLeasedAt, IsWaitAt, AcquiresLease, AcquiresTicket, GrantsLease, GrantsBy, TakesBack, AbandonsLease, WithdrawsTicket, IsStrangeTicket}
use Rattle.cache.proofs.OneHost.{read_is, host_changed, others_keep}
use Rattle.cache.proofs.StreamsStay.{open_ones_stay, open_others_stay, held_is_open}
use Rattle.cache.proofs.SameLog.{shown_as}
use Rattle.cache.proofs.Homes.{call_at}
use Rattle.cache.proofs.Pruning.{all_keep}

module _ {S : Type 0} where
  -- what the bundle says of a lease that it gave, and of a ticket
  pub leased_by : (want : Want) (was new : HostShown S) {booked : List ℕ} {lease : Leasing S} → StartsLease was new want booked lease → IsLeasedAt want was new lease
  leased_by want was new {lease = lease} start = record { made = start.made_here; has_stream = start.has_stream; stream = start.stream; streams = open_others_stay lease.start.number was new start.streams; gets = start.gets }

  pub waits_by : (want : Want) (was new : HostShown S) {booked : List ℕ} {ticket : Ticketed} → BeginsWait was new want booked ticket → IsWaitAt want was new ticket
  waits_by want was new wait = record { made = wait.made_here; streams = open_ones_stay was new wait.streams; gets = wait.gets }

module _ {S : Type 0} (site : ℕ) (hosts : List (HostShown S)) (was new : HostShown S) (limits later : Bounds) (queue after : List ℕ)
    (there : site < length hosts) (read : was ≡ slice_index_or hosts site was) (same : later ≡ limits) where
  abbrev before : PoolShown S
  before = shown_as limits hosts queue

  abbrev next : PoolShown S
  next = shown_as later (slice_set hosts site new) after

  -- what holds of the host that was read, and of what it became, holds of the site's
  old_at : (P : HostShown S → Type 0) → P was → P (host_at before site)
  old_at P p = subst P (read_is hosts site was there read) p

  new_at : (P : HostShown S → Type 0) → P new → P (host_at next site)
  new_at P p = subst P (sym (host_changed hosts site new there)) p

  both_at : (P : HostShown S → HostShown S → Type 0) → P was new → P (host_at before site) (host_at next site)
  both_at P p = old_at (λ (h : HostShown S). P h (host_at next site)) (new_at (P was) p)

  module _ (stays : StaysHost was new) where
    pub at_site : IsCallAt site before next
    at_site = call_at site before next there (both_at StaysHost stays) (others_keep limits queue after hosts site new) (record { limits = same; count = length-set hosts site new })

    pub leased_at : (want : Want) (end : AllHosts) (answer : Reply) (lease : Leasing S) → all_hosts next ≡ end → IsAcquired site answer (Lease lease) → IsLeasedAt want was new lease
        → AcquiresLease site want end answer before next lease
    leased_at want end answer lease all reply leased = record { at_site = at_site; all = all; reply = reply; leased = both_at (λ (x y : HostShown S). IsLeasedAt want x y lease) leased }

    pub waits_at : (want : Want) (end : AllHosts) (answer : Reply) (ticket : Ticketed) → all_hosts next ≡ end → IsAcquired {S = S} site answer (Wait ticket) → IsWaitAt want was new ticket
        → AcquiresTicket site want end answer before next ticket
    waits_at want end answer ticket all reply waits = record { at_site = at_site; all = all; reply = reply; waits = both_at (λ (x y : HostShown S). IsWaitAt want x y ticket) waits }

    -- a lease of this site ends
    module _ (lease : Leasing S) (at : lease.site ≡ site) (end : AllHosts) (all : all_hosts next ≡ end) where
      pub taken_at : IsSound was.settings was.log → is_held_lease was lease ≡ true → KeepsItsStream new lease → KeepsOthers lease.start.number was new → Spends was new lease.start.want.transfer
          → TakesBack end before next lease
      taken_at sound known stream others spends = rw at (record {
        at_site = at_site;
        known = old_at (λ (h : HostShown S). is_held_lease h lease ≡ true) known;
        was_open = old_at (λ (h : HostShown S). is_open h.log lease.start.number ≡ true) (held_is_open was.settings was.log sound lease.start.want.transfer lease.start.number known);
        all = all;
        stream = new_at (λ (h : HostShown S). KeepsItsStream h lease) stream;
        streams = both_at (OtherStreamsStay lease.start.number) (open_others_stay lease.start.number was new others);
        spends = both_at (λ (x y : HostShown S). Spends x y lease.start.want.transfer) spends;
      })

      pub abandoned_at : is_held_lease was lease ≡ true → KeepsOthers lease.start.number was new → Spends was new lease.start.want.transfer → AbandonsLease end before next lease
      abandoned_at known others spends = rw at (record {
        at_site = at_site;
        known = old_at (λ (h : HostShown S). is_held_lease h lease ≡ true) known;
        all = all;
        streams = both_at (OtherStreamsStay lease.start.number) (open_others_stay lease.start.number was new others);
        spends = both_at (λ (x y : HostShown S). Spends x y lease.start.want.transfer) spends;
      })

    -- a ticket of this site ends
    pub withdrawn_at : (ticket : Ticketed) (at : ticket.site ≡ site) (end : AllHosts) (all : all_hosts next ≡ end) → is_valid_ticket was ticket.wait.want ≡ true → KeepsStreams was new → Spends was new ticket.wait.want.transfer
        → WithdrawsTicket end before next ticket
    withdrawn_at ticket at end all valid streams spends = rw at (record {
      at_site = at_site;
      valid = old_at (λ (h : HostShown S). is_valid_ticket h ticket.wait.want ≡ true) valid;
      all = all;
      streams = both_at StreamsStay (open_ones_stay was new streams);
      spends = both_at (λ (x y : HostShown S). Spends x y ticket.wait.want.transfer) spends;
    })

  -- the connection of a lease that is held here is open
  pub held_here : (lease : Leasing S) → lease.site ≡ site → IsSound was.settings was.log → is_held_lease was lease ≡ true
      → (is_held_lease (host_at before lease.site) lease ≡ true) × (is_open (host_at before lease.site).log lease.start.number ≡ true)
  held_here lease at sound known = rw at (
    old_at (λ (h : HostShown S). is_held_lease h lease ≡ true) known,
    old_at (λ (h : HostShown S). is_open h.log lease.start.number ≡ true) (held_is_open was.settings was.log sound lease.start.want.transfer lease.start.number known),
  )

  -- a ticket of this site is a stranger
  pub strange_at : (ticket : Ticketed) → ticket.site ≡ site → is_valid_ticket was ticket.wait.want ≡ false → IsStrangeTicket before ticket
  strange_at ticket at strange = rw at (old_at (λ (h : HostShown S). is_valid_ticket h ticket.wait.want ≡ false) strange)

  -- a call that keeps all leases, tickets and streams
  pub all_at : (end : AllHosts) → all_hosts next ≡ end → KeepsHost was new → IsCallAtAll end before next
  all_at end all keeps = record { all = all; keeps = all_keep limits hosts site was new queue after there read keeps; stays = record { limits = same; count = length-set hosts site new } }

-- what the bundle says of a claim, by its result
module _ {S : Type 0} (site : ℕ) (hosts : List (HostShown S)) (was new : HostShown S) (limits : Bounds) (queue : List ℕ) (there : site < length hosts) (read : was ≡ slice_index_or hosts site was) (stays : StaysHost was new)
    (ticket : Ticketed) (at : ticket.site ≡ site) (place : was.host ≡ site) where
  abbrev start : PoolShown S
  start = shown_as limits hosts queue

  abbrev claimed : PoolShown S
  claimed = shown_as limits (slice_set hosts site new) queue

  pub granted_at : (result : Result (Claimed S) Ticketed) → OnOk result (is_valid_ticket was ticket.wait.want ≡ true) → all_hosts claimed ≡ all_hosts start → (new ≡ was → claimed ≡ start)
      → IfClaimed result (ClaimsLease was new ticket.wait.want)
      → IfStill result (λ (same : Ticketed). (is_unclaimed was ticket.wait.want.transfer ≡ false) × (same ≡ ticket) × (new ≡ was))
      → IfOk result (GrantsBy ticket start claimed)
  granted_at (Ok (Granted lease)) valid all unchanged claims still =
      let leased : IsLeasedAt ticket.wait.want was new lease = record { made = claims.made_here; has_stream = claims.has_stream; stream = claims.stream; streams = open_others_stay lease.start.number was new claims.streams; gets = claims.gets } in
      subst (λ (s : ℕ). GrantsLease s ticket.wait.want start claimed lease) (sym at) (record {
        at_site = at_site site hosts was new limits limits queue queue there read refl stays;
        all = all;
        valid = here (λ (h : HostShown S). is_valid_ticket h ticket.wait.want ≡ true) valid;
        granted = here (λ (h : HostShown S). WasGranted h ticket.wait.want.transfer lease) claims.granted;
        place = claims.granted.1 ∙ place;
        wanted = claims.wanted;
        leased = both_at site hosts was new limits limits queue queue there read refl (λ (x y : HostShown S). IsLeasedAt ticket.wait.want x y lease) leased;
      })
    where
      here : (P : HostShown S → Type 0) → P was → P (host_at start site)
      here P p = old_at site hosts was new limits limits queue queue there read refl P p
  granted_at (Ok (Still same)) valid all unchanged claims still = (
    record {
      same = unchanged still.2;
      there = subst (λ (s : ℕ). s < length hosts) (sym at) there;
      valid = here (λ (h : HostShown S). is_valid_ticket h ticket.wait.want ≡ true) valid;
      none = here (λ (h : HostShown S). is_unclaimed h ticket.wait.want.transfer ≡ false) still.0;
    },
    still.1,
  )
    where
      here : (P : HostShown S → Type 0) → P was → P (host_at start ticket.site)
      here P p = subst (λ (s : ℕ). P (host_at start s)) (sym at) (old_at site hosts was new limits limits queue queue there read refl P p)
  granted_at (Err stray) valid all unchanged claims still = tt

  -- of a stray ticket, which changes nothing
  pub stray_at : {A : Type 0} (result : Result A Ticketed) (end : PoolShown S) → OnErr result (end ≡ start) → IfErr result (λ (stray : Ticketed). (is_valid_ticket was ticket.wait.want ≡ false) × (stray ≡ ticket))
      → IfErr result (λ (stray : Ticketed). (end ≡ start) × IsStrangeTicket start ticket × (stray ≡ ticket))
  stray_at (Ok answer) end same strange = tt
  stray_at (Err stray) end same strange = (same, strange_at site hosts was new limits limits queue queue there read refl ticket at strange.0, strange.1)
