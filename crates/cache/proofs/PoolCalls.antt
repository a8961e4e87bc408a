-- A call at one host, and turns after it, is a call of the pool; and its deed at the site and for the want of the call.
use Rattle.std.proofs.Common.{◌≡◌, ℕ, ◌<◌, ◌==◌, Bool, true, false, length, None, Result, Ok, Err, refl, sym, ap, subst, ◌∙◌, arith}
use Rattle.std.specs.Prelude.{if◌then◌else◌, OnErr, IfOk, IfErr}
use Rattle.std.proofs.lemmas.Bool.Decides.{nat_tests}
use Rattle.conn_log.specs.declared.entry.Want.{Want}
use Rattle.host_state.specs.Calls.{Reply, Start, starts, waits_on, no_room, again}
use Rattle.bundle.specs.Lease.{Leasing, Ticketed, Spends, ticket_want, is_unclaimed}
use Rattle.bundle.specs.declared.answers.Acquired.TheVariants.{Lease, Wait}
use Rattle.bundle.specs.declared.answers.Claimed.{Claimed}
use Rattle.bundle.specs.declared.answers.Claimed.TheVariants.{Lease as Granted, Still}
use Rattle.cache_trait.specs.CacheCalls.{ClaimsBy}
use Rattle.cache_trait.specs.CacheCalls.CacheCall.{leases, begins_wait, grants, finds_strange_ticket}
use Rattle.cache_trait.specs.Homes.{IsLeaseFor, IsTicketFor, Claims}
use Rattle.cache.specs.AllHosts.{AllHosts, served}
use Rattle.cache.specs.Laws.{AnswersWant}
use Rattle.cache.specs.Calls.{Acquired, acquired, after_acquire, reply_of}
use Rattle.cache.proofs.Replies.{acquire_starts_or_waits}
use Rattle.budget.specs.Limits.{Bounds}
use Rattle.cache.specs.Turns.{KeepsSpent}
use Rattle.cache.specs.Pools.{PoolShown, host_at, all_hosts, IsAcquired, StaysPool, IsMadeHere, IsTicketHere}
use Rattle.cache.specs.PoolCalls.{home_of, IsCallAt, IsCallAtAll, AcquiresLease, AcquiresTicket, GrantsLease, GrantsBy, KeepsTicket, TakesBack, AbandonsLease, WithdrawsTicket, IsStrangeTicket, DidToPool}
use Rattle.cache.proofs.Homes.{call_at, made_by, ticket_by}
use Rattle.cache.proofs.Keeping.{still_there, site_on, others_on, streams_at, all_streams_at, own_stream_at, gets_lease_on, gets_ticket_on, spends_on, keeps_hosts, keeps_hosts_on, stays_pool, stays_pool_on}

itself : (n : ℕ) → (n == n) ≡ true
itself n = grind (arith, nat_tests)

module _ {S : Type 0} where
  -- nothing changed
  pub all_same_as : (old new : PoolShown S) → new ≡ old → IsCallAtAll (all_hosts old) old new
  all_same_as old new same = subst (IsCallAtAll (all_hosts old) old) (sym same) (record { all = refl; keeps = keeps_hosts old; stays = stays_pool old })

-- a call at one host, and turns after it
module _ {S : Type 0} (x y z : PoolShown S) (now : ℕ) (turns : IsCallAtAll (served y.limits now (all_hosts y)) y z) where
  served_on : (end : AllHosts) → StaysPool x y → all_hosts y ≡ end → all_hosts z ≡ served x.limits now end
  served_on end stays all = turns.all ∙ ap (λ (l : Bounds). served l now (all_hosts y)) stays.limits ∙ ap (served x.limits now) all

  call_on : (site : ℕ) → IsCallAt site x y → IsCallAt site x z
  call_on site first = call_at site x z first.there (site_on x y z site first.stays first.there first.host turns.keeps) (others_on site x y z first.stays first.others turns.keeps) (stays_pool_on x y z first.stays turns.stays)

  pub all_on : (end : AllHosts) → IsCallAtAll end x y → IsCallAtAll (served x.limits now end) x z
  all_on end first = record { all = served_on end first.stays first.all; keeps = keeps_hosts_on x y z first.stays first.keeps turns.keeps; stays = stays_pool_on x y z first.stays turns.stays }

  pub lease_on : (site : ℕ) (want : Want) (end : AllHosts) (answer : Reply) (lease : Leasing S) → AcquiresLease site want end answer x y lease → AcquiresLease site want (served x.limits now end) answer x z lease
  lease_on site want end answer lease first =
      let call = first.at_site in
      let leased = first.leased in
      record {
        at_site = call_on site call;
        all = served_on end call.stays first.all;
        reply = first.reply;
        leased = record {
          made = leased.made;
          has_stream = leased.has_stream;
          stream = leased.stream;
          streams = streams_at lease.start.number x y z site call.stays call.there call.host leased.streams turns.keeps;
          gets = gets_lease_on (host_at x site) (host_at y site) (host_at z site) want.transfer lease.start.number leased.gets (turns.keeps site (still_there x y site call.stays call.there)).keeps;
        };
      }

  pub ticket_on : (site : ℕ) (want : Want) (end : AllHosts) (answer : Reply) (ticket : Ticketed) → AcquiresTicket site want end answer x y ticket → AcquiresTicket site want (served x.limits now end) answer x z ticket
  ticket_on site want end answer ticket first =
      let call = first.at_site in
      record {
        at_site = call_on site call;
        all = served_on end call.stays first.all;
        reply = first.reply;
        waits = record {
          made = first.waits.made;
          streams = all_streams_at x y z site call.stays call.there call.host first.waits.streams turns.keeps;
          gets = gets_ticket_on (host_at x site) (host_at y site) (host_at z site) want first.waits.gets (turns.keeps site (still_there x y site call.stays call.there)).keeps;
        };
      }

  -- a transfer that spent what it had has nothing to claim after turns
  still_spent : (site transfer : ℕ) → KeepsSpent y z → IsCallAt site x y → Spends (host_at x site) (host_at y site) transfer → Spends (host_at x site) (host_at z site) transfer
  still_spent site transfer spent call spends =
      let there = still_there x y site call.stays call.there in
      let none : ticket_want (host_at y site) transfer ≡ None = spends.tickets transfer ∙ ap (λ (b : Bool). if b then None else ticket_want (host_at x site) transfer) (itself transfer) in
      spends_on (host_at x site) (host_at y site) (host_at z site) transfer spends (turns.keeps site there).keeps (spent site there transfer none spends.unclaimed)

  pub back_on : (end : AllHosts) (lease : Leasing S) → KeepsSpent y z → TakesBack end x y lease → TakesBack (served x.limits now end) x z lease
  back_on end lease spent first =
      let call = first.at_site in
      record {
        at_site = call_on lease.site call;
        known = first.known;
        was_open = first.was_open;
        all = served_on end call.stays first.all;
        stream = own_stream_at x y z lease call.stays call.there call.host first.was_open first.stream turns.keeps;
        streams = streams_at lease.start.number x y z lease.site call.stays call.there call.host first.streams turns.keeps;
        spends = still_spent lease.site lease.start.want.transfer spent call first.spends;
      }

  pub abandon_on : (end : AllHosts) (lease : Leasing S) → KeepsSpent y z → AbandonsLease end x y lease → AbandonsLease (served x.limits now end) x z lease
  abandon_on end lease spent first =
      let call = first.at_site in
      record {
        at_site = call_on lease.site call;
        known = first.known;
        all = served_on end call.stays first.all;
        streams = streams_at lease.start.number x y z lease.site call.stays call.there call.host first.streams turns.keeps;
        spends = still_spent lease.site lease.start.want.transfer spent call first.spends;
      }

  pub withdraw_on : (end : AllHosts) (ticket : Ticketed) → KeepsSpent y z → WithdrawsTicket end x y ticket → WithdrawsTicket (served x.limits now end) x z ticket
  withdraw_on end ticket spent first =
      let call = first.at_site in
      record {
        at_site = call_on ticket.site call;
        valid = first.valid;
        all = served_on end call.stays first.all;
        streams = all_streams_at x y z ticket.site call.stays call.there call.host first.streams turns.keeps;
        spends = still_spent ticket.site ticket.wait.want.transfer spent call first.spends;
      }

-- the lease or the ticket of an acquire is of its site and its want
module _ {S : Type 0} where
  lease_for : (site : ℕ) (want : Want) (reply : Reply) (lease : Leasing S) → AnswersWant want reply → IsAcquired site reply (Lease lease) → (lease.site ≡ site) × (lease.start.want ≡ want)
  lease_for site want (starts start) lease its is = (is.0, ap (λ (s : Start). s.want) is.1 ∙ its)
  lease_for site want (waits_on wait) lease its is = absurd is
  lease_for site want no_room lease its is = absurd is
  lease_for site want again lease its is = absurd is

ticket_for : (S : Type 0) (site : ℕ) (want : Want) (reply : Reply) (ticket : Ticketed) → AnswersWant want reply → IsAcquired {S = S} site reply (Wait ticket) → (ticket.site ≡ site) × (ticket.wait.want ≡ want)
ticket_for S site want (starts start) ticket its is = absurd is
ticket_for S site want (waits_on wait) ticket its is = (ap (λ (t : Ticketed). t.site) is, ap (λ (t : Ticketed). t.wait.want) is ∙ its)
ticket_for S site want no_room ticket its is = absurd is
ticket_for S site want again ticket its is = absurd is

module _ {S : Type 0} (old new : PoolShown S) (site : ℕ) (want : Want) where
  -- one that was made at the site's tables is the pool's own
  own_lease : (lease : Leasing S) → IsCallAt site old new → lease.site ≡ site → lease.tables ≡ (host_at old site).tables → IsMadeHere new lease
  own_lease lease call at made = record {
    there = subst (λ (s : ℕ). s < length new.hosts) (sym at) (still_there old new site call.stays call.there);
    tables = made ∙ sym call.host.same.tables ∙ ap (λ (s : ℕ). (host_at new s).tables) (sym at);
  }

  own_ticket : (ticket : Ticketed) → IsCallAt site old new → ticket.site ≡ site → ticket.tables ≡ (host_at old site).tables → IsTicketHere new ticket
  own_ticket ticket call at made = record {
    there = subst (λ (s : ℕ). s < length new.hosts) (sym at) (still_there old new site call.stays call.there);
    tables = made ∙ sym call.host.same.tables ∙ ap (λ (s : ℕ). (host_at new s).tables) (sym at);
  }

  module _ (now : ℕ) where
    abbrev pub end : AllHosts
    end = after_acquire old.limits site want now (all_hosts old)

    abbrev pub answer : Reply
    answer = reply_of old.limits site want now (all_hosts old)

    answers : AnswersWant want answer
    answers = acquire_starts_or_waits old.limits site want now (all_hosts old)

    -- an acquire's lease is what the trait says of it, and its deed is that at the lease's own site and want
    pub lease_given : (lease : Leasing S) → AcquiresLease site want end answer old new lease → IsLeaseFor (home_of new) site want lease
    lease_given lease did =
        let its = lease_for site want answer lease answers did.reply in
        record { here = made_by new lease (own_lease lease did.at_site its.0 did.leased.made); site_is = its.0; want_is = its.1; wire = did.leased.has_stream }

    pub lease_did : (lease : Leasing S) → AcquiresLease site want end answer old new lease → DidToPool old new (leases lease now)
    lease_did lease did =
        let its = lease_for site want answer lease answers did.reply in
        subst (λ (s : ℕ). As s lease.start.want) (sym its.0) (subst (As site) (sym its.1) did)
      where
        As : ℕ → Want → Type 0
        As s w = AcquiresLease s w (after_acquire old.limits s w now (all_hosts old)) (reply_of old.limits s w now (all_hosts old)) old new lease

    pub ticket_given : (ticket : Ticketed) → AcquiresTicket site want end answer old new ticket → IsTicketFor (home_of new) site want ticket
    ticket_given ticket did =
        let its = ticket_for S site want answer ticket answers did.reply in
        record { here = ticket_by new ticket (own_ticket ticket did.at_site its.0 did.waits.made); site_is = its.0; want_is = its.1 }

    pub ticket_did : (ticket : Ticketed) → AcquiresTicket site want end answer old new ticket → DidToPool old new (begins_wait ticket now)
    ticket_did ticket did =
        let its = ticket_for S site want answer ticket answers did.reply in
        subst (λ (s : ℕ). As s ticket.wait.want) (sym its.0) (subst (As site) (sym its.1) did)
      where
        As : ℕ → Want → Type 0
        As s w = AcquiresTicket s w (after_acquire old.limits s w now (all_hosts old)) (reply_of old.limits s w now (all_hosts old)) old new ticket

    -- the other way round, for those who call a pool
    pub lease_as : (lease : Leasing S) → IsLeaseFor (home_of new) site want lease → DidToPool old new (leases lease now) → AcquiresLease site want end answer old new lease
    lease_as lease given did = subst (As site) given.want_is (subst (λ (s : ℕ). As s lease.start.want) given.site_is did)
      where
        As : ℕ → Want → Type 0
        As s w = AcquiresLease s w (after_acquire old.limits s w now (all_hosts old)) (reply_of old.limits s w now (all_hosts old)) old new lease

    pub ticket_as : (ticket : Ticketed) → IsTicketFor (home_of new) site want ticket → DidToPool old new (begins_wait ticket now) → AcquiresTicket site want end answer old new ticket
    ticket_as ticket given did = subst (As site) given.want_is (subst (λ (s : ℕ). As s ticket.wait.want) given.site_is did)
      where
        As : ℕ → Want → Type 0
        As s w = AcquiresTicket s w (after_acquire old.limits s w now (all_hosts old)) (reply_of old.limits s w now (all_hosts old)) old new ticket

-- an acquire of the pool's hosts, and turns after it: what the trait says of it
module _ {S : Type 0} (x y z pool : PoolShown S) (is : x ≡ pool) (now : ℕ) (turns : IsCallAtAll (served y.limits now (all_hosts y)) y z) (site : ℕ) (want : Want) where
  abbrev done : Acquired
  done = acquired x.limits site want now (all_hosts x)

  pub told_lease : (lease : Leasing S) → AcquiresLease site want done.all done.reply x y lease → IsLeaseFor (home_of z) site want lease × DidToPool pool z (leases lease now) × (home_of z ≡ home_of pool)
  told_lease lease first =
      let did = lease_on x y z now turns site want done.all done.reply lease first in
      (lease_given x z site want now lease did, subst (λ (p : PoolShown S). DidToPool p z (leases lease now)) is (lease_did x z site want now lease did), did.at_site.home ∙ ap (λ (p : PoolShown S). home_of p) is)

  pub told_ticket : (ticket : Ticketed) → AcquiresTicket site want done.all done.reply x y ticket → IsTicketFor (home_of z) site want ticket × DidToPool pool z (begins_wait ticket now) × (home_of z ≡ home_of pool)
  told_ticket ticket first =
      let did = ticket_on x y z now turns site want done.all done.reply ticket first in
      (ticket_given x z site want now ticket did, subst (λ (p : PoolShown S). DidToPool p z (begins_wait ticket now)) is (ticket_did x z site want now ticket did), did.at_site.home ∙ ap (λ (p : PoolShown S). home_of p) is)

-- a claim, by its result
module _ {S : Type 0} (old new : PoolShown S) (ticket : Ticketed) where
  pub claim_gives : (result : Result (Claimed S) Ticketed) → IfOk result (GrantsBy ticket old new) → IfOk result (Claims (home_of new) ticket)
  claim_gives (Ok (Granted lease)) did = record { here = made_by new lease (own_lease old new ticket.site ticket.wait.want lease did.at_site did.place did.leased.made); site_is = did.place; want_is = did.wanted; wire = did.leased.has_stream }
  claim_gives (Ok (Still same)) did = did.1
  claim_gives (Err stray) did = tt

  pub claim_did : (result : Result (Claimed S) Ticketed) → IfOk result (GrantsBy ticket old new) → IfOk result (ClaimsBy (DidToPool old new))
  claim_did (Ok (Granted lease)) did = subst (λ (s : ℕ). GrantsLease s lease.start.want old new lease) (sym did.place) (subst (λ (w : Want). GrantsLease ticket.site w old new lease) (sym did.wanted) did)
  claim_did (Ok (Still same)) did = subst (KeepsTicket old new) (sym did.1) did.0
  claim_did (Err stray) did = tt

  pub claim_stays : (result : Result (Claimed S) Ticketed) → IfOk result (GrantsBy ticket old new) → IfErr result (λ (stray : Ticketed). (new ≡ old) × IsStrangeTicket old ticket × (stray ≡ ticket)) → home_of new ≡ home_of old
  claim_stays (Ok (Granted lease)) did strange = did.at_site.home
  claim_stays (Ok (Still same)) did strange = ap (λ (p : PoolShown S). home_of p) did.0.same
  claim_stays (Err stray) did strange = ap (λ (p : PoolShown S). home_of p) strange.0

  -- a stray ticket
  module _ {A : Type 0} (result : Result A Ticketed) (strange : IfErr result (λ (stray : Ticketed). (new ≡ old) × IsStrangeTicket old ticket × (stray ≡ ticket))) where
    pub finds_stranger : OnErr result (DidToPool old new (finds_strange_ticket ticket))
    finds_stranger = by_result result strange
      where
        by_result : (r : Result A Ticketed) → IfErr r (λ (stray : Ticketed). (new ≡ old) × IsStrangeTicket old ticket × (stray ≡ ticket)) → OnErr r (DidToPool old new (finds_strange_ticket ticket))
        by_result (Ok a) s = tt
        by_result (Err stray) s = (s.0, s.1)

    pub comes_back : IfErr result (λ (stray : Ticketed). stray ≡ ticket)
    comes_back = by_result result strange
      where
        by_result : (r : Result A Ticketed) → IfErr r (λ (stray : Ticketed). (new ≡ old) × IsStrangeTicket old ticket × (stray ≡ ticket)) → IfErr r (λ (stray : Ticketed). stray ≡ ticket)
        by_result (Ok a) s = tt
        by_result (Err stray) s = s.2

  -- a ticket that comes back from a claim is the same
  pub still_as : (same : Ticketed) → same ≡ ticket → KeepsTicket old new same → (is_unclaimed (host_at old ticket.site) ticket.wait.want.transfer ≡ false) × (same ≡ ticket) × (new ≡ old)
  still_as same is did = (subst (λ (t : Ticketed). is_unclaimed (host_at old t.site) t.wait.want.transfer ≡ false) is did.none, is, did.same)

  -- a claim that gave a lease, at the site and for the want of its ticket, for those who call a pool
  pub grant_as : (lease : Leasing S) → IsLeaseFor (home_of new) ticket.site ticket.wait.want lease → DidToPool old new (grants lease) → GrantsLease ticket.site ticket.wait.want old new lease
  grant_as lease given did = subst (λ (w : Want). GrantsLease ticket.site w old new lease) given.want_is (subst (λ (s : ℕ). GrantsLease s lease.start.want old new lease) given.site_is did)
