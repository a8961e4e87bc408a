-- What a pool does at each call of a cache, as its contracts tell it. A call of the pool's hosts, before turns are taken,
-- is told by the same record as the pool's call: each has its site, what is wanted, and what all hosts are in the end, as
-- parameters.
use Rattle.std.specs.Prelude.{◌≡◌, ℕ, nat_lt, if◌then◌else◌, ◌<◌, ◌⊎◌, true, false, List, [], length, map, Option, Some, None, is_some}
use Rattle.conn_log.specs.declared.entry.Want.{Want}
use Rattle.conn_log.specs.declared.entry.Entry.{Entry}
use Rattle.conn_log.specs.Connections.{is_open}
use Rattle.budget.specs.declared.refusal.Refusal.{Refusal}
use Rattle.budget.specs.declared.refusal.Refusal.TheVariants.{Memory, BadSite}
use Rattle.host_state.specs.Bookings.{without_booked}
use Rattle.host_state.specs.Calls.{Reply, GrowsBy, refusal, limit_refusal}
use Rattle.bundle.specs.Seats.{Tables}
use Rattle.bundle.specs.Lease.{HostShown, StaysThere, IsPartOf, cut_refusal, Leasing, Ticketed, WasGranted, HasItsStream, KeepsItsStream, GetsLease, GetsTicket, Spends, is_held_lease, is_valid_ticket, is_unclaimed}
use Rattle.bundle.specs.declared.answers.Acquired.{Acquired}
use Rattle.bundle.specs.declared.answers.Acquired.TheVariants.{Lease, Wait}
use Rattle.bundle.specs.declared.answers.Claimed.{Claimed}
use Rattle.bundle.specs.declared.answers.Claimed.TheVariants.{Lease as Granted, Still}
use Rattle.cache_trait.specs.CacheCalls.{CacheCall}
use Rattle.cache_trait.specs.CacheCalls.CacheCall.{leases, begins_wait, refuses, grants, keeps_waiting, gives_back, abandons, withdraws, finds_strange_lease, finds_strange_ticket}
use Rattle.cache.specs.AllHosts.{AllHosts}
use Rattle.cache.specs.Calls.{after_acquire, reply_of, after_giving_back, after_abandoning, after_withdrawing}
use Rattle.cache.specs.Pools.{PoolShown, host_at, all_hosts, cut_at, IsAcquired, GivesLease, GivesTicket, StaysHost, StaysPool, KeepsHosts, KeepsOtherHosts, StreamsStay, OtherStreamsStay}

-- the tables of its hosts, by site
abbrev pub home_of : {S : Type 0} → PoolShown S → List Tables
home_of {S} pool = map (λ (h : HostShown S). h.tables) pool.hosts

-- a call at one host: the host exists and stays what it is, all others keep their leases, tickets and streams, the pool
-- has the same limits and as many hosts, and each host has the same tables
pub record IsCallAt {S : Type 0} (site : ℕ) (old new : PoolShown S) : Type 0 where
  pub there : site < length old.hosts
  pub host : StaysHost (host_at old site) (host_at new site)
  pub others : KeepsOtherHosts site old new
  pub stays : StaysPool old new
  pub home : home_of new ≡ home_of old

-- a call that may concern any host: all hosts are so in the end, and each keeps its leases, tickets and streams
pub record IsCallAtAll {S : Type 0} (end : AllHosts) (old new : PoolShown S) : Type 0 where
  pub all : all_hosts new ≡ end
  pub keeps : KeepsHosts old new
  pub stays : StaysPool old new

-- a host gave a lease for that want: made at its tables, on a reused connection with the stream that the host had, else
-- with none; all other streams stay
pub record IsLeasedAt {S : Type 0} (want : Want) (old new : HostShown S) (lease : Leasing S) : Type 0 where
  pub made : lease.tables ≡ old.tables
  pub has_stream : is_some lease.stream ≡ lease.start.reused
  pub stream : HasItsStream old.streams lease
  pub streams : OtherStreamsStay lease.start.number old new
  pub gets : GetsLease old new want.transfer lease.start.number

-- a host gave a ticket for that want, made at its tables; all streams stay
pub record IsWaitAt {S : Type 0} (want : Want) (old new : HostShown S) (ticket : Ticketed) : Type 0 where
  pub made : ticket.tables ≡ old.tables
  pub streams : StreamsStay old new
  pub gets : GetsTicket old new want

-- an acquire for a want at a site leased a connection, as that reply says
pub record AcquiresLease {S : Type 0} (site : ℕ) (want : Want) (end : AllHosts) (answer : Reply) (old new : PoolShown S) (lease : Leasing S) : Type 0 where
  pub at_site : IsCallAt site old new
  pub all : all_hosts new ≡ end
  pub reply : IsAcquired site answer (Lease lease)
  pub leased : IsLeasedAt want (host_at old site) (host_at new site) lease

-- an acquire began the transfer's wait
pub record AcquiresTicket {S : Type 0} (site : ℕ) (want : Want) (end : AllHosts) (answer : Reply) (old new : PoolShown S) (ticket : Ticketed) : Type 0 where
  pub at_site : IsCallAt site old new
  pub all : all_hosts new ≡ end
  pub reply : IsAcquired {S = S} site answer (Wait ticket)
  pub waits : IsWaitAt want (host_at old site) (host_at new site) ticket

-- an acquire that was left halfway at a host ended: its transfer is booked there no more
pub record EndsBooking {S : Type 0} (transfer : ℕ) (old new : HostShown S) : Type 0 where
  pub same : StaysThere old new
  pub booked : new.booked ≡ without_booked transfer old.booked
  pub grew : GrowsBy old.log new.log

-- it ended with that lease or ticket, and all other hosts keep theirs
pub record EndsAcquire {S : Type 0} (site : ℕ) (want : Want) (end : AllHosts) (answer : Reply) (old new : PoolShown S) (got : Acquired S) : Type 0 where
  pub all : all_hosts new ≡ end
  pub reply : IsAcquired site answer got
  pub lease : GivesLease got (IsLeasedAt want (host_at old site) (host_at new site))
  pub ticket : GivesTicket got (IsWaitAt want (host_at old site) (host_at new site))
  pub ends : EndsBooking want.transfer (host_at old site) (host_at new site)
  pub others : KeepsOtherHosts site old new
  pub stays : StaysPool old new

-- what an acquire did, by what it gives
abbrev pub AcquiresBy : {S : Type 0} → ℕ → Want → AllHosts → Reply → PoolShown S → PoolShown S → Acquired S → Type 0
AcquiresBy site want end answer old new (Lease lease) = AcquiresLease site want end answer old new lease
AcquiresBy site want end answer old new (Wait ticket) = AcquiresTicket site want end answer old new ticket

-- a call is refused for the reason that it is due, if any, and else for want of memory
abbrev pub IsReason : Option Refusal → Refusal → Type 0
IsReason due reason = (due ≡ Some reason) ⊎ ((due ≡ None) × (reason ≡ Memory))

-- the refusal that an acquire, or a new limit, is due: there is no such site, or that of its host
abbrev pub acquire_refusal : {S : Type 0} → PoolShown S → ℕ → Want → Option Refusal
acquire_refusal pool site want = if nat_lt site (length pool.hosts) then (let host = host_at pool site in refusal host.settings host.log [] want) else Some BadSite

abbrev pub limit_refusal_at : {S : Type 0} → PoolShown S → ℕ → ℕ → Option Refusal
limit_refusal_at pool site limit = if nat_lt site (length pool.hosts) then limit_refusal limit (host_at pool site).log else Some BadSite

-- why a pool refuses what is wanted of a site
abbrev pub IsRefusalOf : {S : Type 0} → PoolShown S → ℕ → Want → Refusal → Type 0
IsRefusalOf pool site want reason = IsReason (acquire_refusal pool site want) reason

-- a claim for the ticket of a want gave the lease that was granted for it; no log changed
pub record GrantsLease {S : Type 0} (site : ℕ) (want : Want) (old new : PoolShown S) (lease : Leasing S) : Type 0 where
  pub at_site : IsCallAt site old new
  pub all : all_hosts new ≡ all_hosts old
  pub valid : is_valid_ticket (host_at old site) want ≡ true
  pub granted : WasGranted (host_at old site) want.transfer lease
  pub place : lease.site ≡ site
  pub wanted : lease.start.want ≡ want
  pub leased : IsLeasedAt want (host_at old site) (host_at new site) lease

-- a claim changed nothing: the ticket is valid, and its transfer was granted nothing yet
pub record KeepsTicket {S : Type 0} (old new : PoolShown S) (ticket : Ticketed) : Type 0 where
  pub same : new ≡ old
  pub there : ticket.site < length old.hosts
  pub valid : is_valid_ticket (host_at old ticket.site) ticket.wait.want ≡ true
  pub none : is_unclaimed (host_at old ticket.site) ticket.wait.want.transfer ≡ false

-- what a claim for a ticket did, by what it gives
abbrev pub GrantsBy : {S : Type 0} → Ticketed → PoolShown S → PoolShown S → Claimed S → Type 0
GrantsBy ticket old new (Granted lease) = GrantsLease ticket.site ticket.wait.want old new lease
GrantsBy ticket old new (Still same) = KeepsTicket old new ticket × (same ≡ ticket)

-- a lease came back with the facts of its response; its stream is there while its connection is open, and all other
-- streams stay
pub record TakesBack {S : Type 0} (end : AllHosts) (old new : PoolShown S) (lease : Leasing S) : Type 0 where
  pub at_site : IsCallAt lease.site old new
  pub known : is_held_lease (host_at old lease.site) lease ≡ true
  pub was_open : is_open (host_at old lease.site).log lease.start.number ≡ true
  pub all : all_hosts new ≡ end
  pub stream : KeepsItsStream (host_at new lease.site) lease
  pub streams : OtherStreamsStay lease.start.number (host_at old lease.site) (host_at new lease.site)
  pub spends : Spends (host_at old lease.site) (host_at new lease.site) lease.start.want.transfer

-- a leased connection was closed without a response; all other streams stay
pub record AbandonsLease {S : Type 0} (end : AllHosts) (old new : PoolShown S) (lease : Leasing S) : Type 0 where
  pub at_site : IsCallAt lease.site old new
  pub known : is_held_lease (host_at old lease.site) lease ≡ true
  pub all : all_hosts new ≡ end
  pub streams : OtherStreamsStay lease.start.number (host_at old lease.site) (host_at new lease.site)
  pub spends : Spends (host_at old lease.site) (host_at new lease.site) lease.start.want.transfer

-- a wait ended, or a grant that nobody claimed; all streams stay
pub record WithdrawsTicket {S : Type 0} (end : AllHosts) (old new : PoolShown S) (ticket : Ticketed) : Type 0 where
  pub at_site : IsCallAt ticket.site old new
  pub valid : is_valid_ticket (host_at old ticket.site) ticket.wait.want ≡ true
  pub all : all_hosts new ≡ end
  pub streams : StreamsStay (host_at old ticket.site) (host_at new ticket.site)
  pub spends : Spends (host_at old ticket.site) (host_at new ticket.site) ticket.wait.want.transfer

-- a host's log was cut: these entries were handed out, and nothing else changed
pub record CutsHost {S : Type 0} (site : ℕ) (old new : PoolShown S) (entries : List Entry) : Type 0 where
  pub there : site < length old.hosts
  pub part : IsPartOf (host_at old site) entries
  pub cut : new ≡ cut_at site old
  pub all : all_hosts new ≡ all_hosts old

-- why it is not cut: there is no such site, or that of its host
abbrev pub cut_refusal_at : {S : Type 0} → PoolShown S → ℕ → Refusal
cut_refusal_at pool site = if nat_lt site (length pool.hosts) then cut_refusal (host_at pool site) else BadSite

-- a ticket is a stranger: its transfer neither waits at its site with its want nor has yet to claim what it was granted
-- for that want
abbrev pub IsStrangeTicket : {S : Type 0} → PoolShown S → Ticketed → Type 0
IsStrangeTicket pool ticket = is_valid_ticket (host_at pool ticket.site) ticket.wait.want ≡ false

-- from the one time to the other a pool did this; no lease is ever a stranger
abbrev pub DidToPool : {S : Type 0} → PoolShown S → PoolShown S → CacheCall S → Type 0
DidToPool old new (leases lease now) =
    let want = lease.start.want in
    AcquiresLease lease.site want (after_acquire old.limits lease.site want now (all_hosts old)) (reply_of old.limits lease.site want now (all_hosts old)) old new lease
DidToPool old new (begins_wait ticket now) =
    let want = ticket.wait.want in
    AcquiresTicket ticket.site want (after_acquire old.limits ticket.site want now (all_hosts old)) (reply_of old.limits ticket.site want now (all_hosts old)) old new ticket
DidToPool old new (refuses site want now reason) = (new ≡ old) × IsRefusalOf old site want reason
DidToPool old new (grants lease) = GrantsLease lease.site lease.start.want old new lease
DidToPool old new (keeps_waiting ticket) = KeepsTicket old new ticket
DidToPool old new (gives_back lease facts now) = TakesBack (after_giving_back old.limits lease.site lease.start.number facts now (all_hosts old)) old new lease
DidToPool old new (abandons lease now) = AbandonsLease (after_abandoning old.limits lease.site lease.start.number now (all_hosts old)) old new lease
DidToPool old new (withdraws ticket now) = WithdrawsTicket (after_withdrawing old.limits ticket.site ticket.wait.want.transfer now (all_hosts old)) old new ticket
DidToPool old new (finds_strange_lease lease) = ⊥
DidToPool old new (finds_strange_ticket ticket) = (new ≡ old) × IsStrangeTicket old ticket
