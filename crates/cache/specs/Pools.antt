-- What a pool shows to those who use it, and what it keeps true.
use Rattle.std.specs.Prelude.{◌≡◌, ◌≢◌, ℕ, ◌<◌, ◌≤◌, ◌==◌, true, false, List, [], length, map, slice_index_or, slice_set, Option, Result, Ok, Err}
use Rattle.atomic_table.specs.Seated.{TableId}
use Rattle.budget.specs.Limits.{Bounds}
use Rattle.budget.specs.Lobby.{Queue, is_listed}
use Rattle.budget.specs.Plain.{Plain}
use Rattle.budget.specs.Accounts.{IsEnrolledAt, spent_at}
use Rattle.conn_log.specs.declared.entry.Entry.{Entry}
use Rattle.conn_log.specs.declared.stamp.Stamp.{Stamp}
use Rattle.conn_log.specs.Connections.{is_open}
use Rattle.conn_log.specs.Fit.{oldest_stamp}
use Rattle.host_state.specs.Idle.{stream_of}
use Rattle.host_state.specs.Calls.{Reply, starts, waits_on, GrowsBy, is_queued}
use Rattle.host_state.specs.Laws.{IsSoundAndQuiet}
use Rattle.bundle.specs.Lease.{HostShown, IsNewHost, Leasing, Ticketed, StaysThere, KeepsAll}
use Rattle.host_state.specs.Counts.{held_by}
pub use Rattle.bundle.specs.Around.{StaysHost}
use Rattle.bundle.specs.Passes.{Accounts}
use Rattle.bundle.specs.Seats.{gone}
use Rattle.bundle.specs.declared.answers.Acquired.{Acquired}
use Rattle.bundle.specs.declared.answers.Acquired.TheVariants.{Lease, Wait}
use Rattle.cache.specs.Oldest.{is_before, stamp_at}
use Rattle.cache.specs.AllHosts.{AllHosts, terms}

-- a pool: its limits, its hosts by index, and those that are queued for room in total, in order
pub record PoolShown (S : Type 0) : Type 0 where
  pub limits : Bounds
  pub hosts : List (HostShown S)
  pub queue : List ℕ

-- a host that is not there
abbrev pub no_table : TableId
no_table = record { words = 0; slots = 0; views_name = 0; atom = 0; block = 0; offset = 0; slot_names = [] }

abbrev pub no_host : {S : Type 0} → HostShown S
no_host = record { log = []; cut_away = 0; settings = record { limit = 0; first = 0 }; host = 0; streams = []; unclaimed = []; booked = []; tables = record { starts = no_table; pairs = no_table } }

-- the host of that index
abbrev pub host_in : {S : Type 0} → List (HostShown S) → ℕ → HostShown S
host_in hosts host = slice_index_or hosts host no_host

abbrev pub host_at : {S : Type 0} → PoolShown S → ℕ → HostShown S
host_at pool host = host_in pool.hosts host

-- what the hosts have logged
abbrev pub logs_of : {S : Type 0} → List (HostShown S) → List (List Entry)
logs_of {S} hosts = map (λ (h : HostShown S). h.log) hosts

abbrev pub all_hosts : {S : Type 0} → PoolShown S → AllHosts
all_hosts pool = record { logs = logs_of pool.hosts; queue = pool.queue }

-- a pool of new hosts: each has its index, and the pool's terms
pub record IsNewPool {S : Type 0} (limits : Bounds) (hosts : ℕ) (pool : PoolShown S) : Type 0 where
  pub limits_are : pool.limits ≡ limits
  pub count : length pool.hosts ≡ hosts
  pub each : (host : ℕ) → host < hosts → IsNewHost limits.host host (terms limits).first (host_at pool host)
  pub none_logged : (host : ℕ) → (host_at pool host).log ≡ []
  pub none_queued : pool.queue ≡ []

-- each host is in its place, with the pool's terms
pub record IsInPlace {S : Type 0} (limits : Bounds) (index : ℕ) (host : HostShown S) : Type 0 where
  pub place : host.host ≡ index
  pub settings : host.settings ≡ terms limits

abbrev pub AreInPlace : {S : Type 0} → PoolShown S → Type 0
AreInPlace pool = (host : ℕ) → host < length pool.hosts → IsInPlace pool.limits host (host_at pool host)

-- each connection that is open before and after has the stream under its number that it had; or each but one, which is
-- leased or comes back
abbrev pub StreamsStay : {S : Type 0} → HostShown S → HostShown S → Type 0
StreamsStay old new = (c : ℕ) → is_open old.log c ≡ true → is_open new.log c ≡ true → stream_of new.streams c ≡ stream_of old.streams c

abbrev pub OtherStreamsStay : {S : Type 0} → ℕ → HostShown S → HostShown S → Type 0
OtherStreamsStay one old new = (c : ℕ) → (one == c) ≡ false → is_open old.log c ≡ true → is_open new.log c ≡ true → stream_of new.streams c ≡ stream_of old.streams c

-- and nobody's lease or ticket there changes, nor does a stream
pub record KeepsHost {S : Type 0} (old new : HostShown S) : Type 0 where
  pub stays : StaysHost old new
  pub keeps : KeepsAll old new
  pub streams : StreamsStay old new

-- the pool has the same limits, and as many hosts
pub record StaysPool {S : Type 0} (old new : PoolShown S) : Type 0 where
  pub limits : new.limits ≡ old.limits
  pub count : length new.hosts ≡ length old.hosts

-- each host stays; it keeps all leases, tickets and streams at every host, or at every host but one
abbrev pub StaysHosts : {S : Type 0} → PoolShown S → PoolShown S → Type 0
StaysHosts old new = (host : ℕ) → host < length old.hosts → StaysHost (host_at old host) (host_at new host)

abbrev pub KeepsHosts : {S : Type 0} → PoolShown S → PoolShown S → Type 0
KeepsHosts old new = (host : ℕ) → host < length old.hosts → KeepsHost (host_at old host) (host_at new host)

abbrev pub KeepsOtherHosts : {S : Type 0} → ℕ → PoolShown S → PoolShown S → Type 0
KeepsOtherHosts one old new = (host : ℕ) → host < length old.hosts → host ≢ one → KeepsHost (host_at old host) (host_at new host)

-- a host once its log is cut, and a pool once that of one of its hosts is: nothing else changes
abbrev pub cut_host : {S : Type 0} → HostShown S → HostShown S
cut_host host = record host { cut_away = length host.log }

abbrev pub cut_at : {S : Type 0} → ℕ → PoolShown S → PoolShown S
cut_at site pool = record pool { hosts = slice_set pool.hosts site (cut_host (host_at pool site)) }

-- what an acquire gives, as its reply says: a lease of its start, or the ticket of its wait
abbrev pub IsAcquired : {S : Type 0} → ℕ → Reply → Acquired S → Type 0
IsAcquired host (starts start) (Lease lease) = (lease.site ≡ host) × (lease.start ≡ start)
IsAcquired host (waits_on wait) (Wait ticket) = ticket ≡ record { site = host; wait = wait; tables = ticket.tables }
IsAcquired host reply acquired = ⊥

abbrev pub GivesLease : {S : Type 0} → Acquired S → (Leasing S → Type 0) → Type 0
GivesLease (Lease lease) P = P lease
GivesLease _ P = Unit {0}

abbrev pub GivesTicket : {S : Type 0} → Acquired S → (Ticketed → Type 0) → Type 0
GivesTicket (Wait ticket) P = P ticket
GivesTicket _ P = Unit {0}

abbrev pub IfAcquired : {S E : Type 0} → Result (Acquired S) E → (Acquired S → Type 0) → Type 0
IfAcquired (Ok acquired) P = P acquired
IfAcquired (Err e) P = Unit {0}

-- a lease that was made here: its host is here, at whose tables it has its seats
pub record IsMadeHere {S : Type 0} (pool : PoolShown S) (lease : Leasing S) : Type 0 where
  pub there : lease.site < length pool.hosts
  pub tables : lease.tables ≡ (host_at pool lease.site).tables

-- a ticket that was made here: its host is here, and it was made at that host's tables
pub record IsTicketHere {S : Type 0} (pool : PoolShown S) (ticket : Ticketed) : Type 0 where
  pub there : ticket.site < length pool.hosts
  pub tables : ticket.tables ≡ (host_at pool ticket.site).tables

-- what a pool keeps of a host: its place and its terms; that its log is sound, and quiet with its mark, and the queue
-- has it exactly where it is queued; that as many leases were spent with the pool's pass as starts are gone; and that
-- the stamp noted for it is no later than that of its oldest
pub record IsKeptHost {S : Type 0} (limits : Bounds) (index : ℕ) (host : HostShown S) (queue : List ℕ) (pass : Accounts) (noted : Option Stamp) : Type 0 where
  pub place : host.host ≡ index
  pub settings : host.settings ≡ terms limits
  pub settled : IsSoundAndQuiet host.settings host.log
  pub listed : is_listed queue index ≡ is_queued host.settings host.log
  pub enrolled : IsEnrolledAt pass host.host host.tables.starts
  pub spent : spent_at pass host.host ≡ gone host.log
  pub not_later : is_before (oldest_stamp host.log index) noted ≡ false

-- what it keeps of all: the budget holds what the logs count, and there is a place for each host
pub record AreKept {S : Type 0} (hosts : List (HostShown S)) (budget : Plain) (lobby : Queue) (pass : Accounts) (noted : List (Option Stamp)) : Type 0 where
  pub few : length hosts ≤ 1024
  pub parts : budget.hosts ≡ map (λ (h : HostShown S). held_by h.log) hosts
  pub lobby_hosts : lobby.hosts ≡ length hosts
  pub accounts : length pass ≡ length hosts
  pub stamps : length noted ≡ length hosts
  pub each : (index : ℕ) → index < length hosts → IsKeptHost budget.limits index (host_in hosts index) lobby.order pass (stamp_at noted index)
