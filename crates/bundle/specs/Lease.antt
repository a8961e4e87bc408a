-- A lease, a ticket, and what a host shows to those who use its bundle.
use Rattle.std.specs.Prelude.{◌≡◌, ℕ, ◌-◌, Bool, true, false, ◌==◌, ◌&&◌, ◌||◌, if◌then◌else◌, List, [], ◌∷◌, length, map, drop, reverse, Option, Some, None, is_some}
use Rattle.std.specs.List.{list_any}
use Rattle.std.specs.Option.{option_map_or}
use Rattle.std.specs.Bool.{beq}
use Rattle.bundle.specs.Seats.{Tables}
use Rattle.budget.specs.declared.refusal.Refusal.{Refusal}
use Rattle.budget.specs.declared.refusal.Refusal.TheVariants.{Memory, Exhausted}
use Rattle.conn_log.specs.declared.entry.Want.{Want}
use Rattle.conn_log.specs.declared.entry.Entry.{Entry}
use Rattle.conn_log.specs.Connections.{is_among, is_open, is_idle, is_held_by, held_number}
use Rattle.conn_log.specs.Waiting.{waiting}
use Rattle.conn_log.specs.Bases.{is_too_long_to_cut}
use Rattle.conn_log.specs.Legal.{LimitAndFirst}
use Rattle.host_state.specs.Queue.{waiting_want}
use Rattle.host_state.specs.Calls.{Start, Wait, last_start}
use Rattle.host_state.specs.Idle.{stream_of}
use Rattle.host_state.specs.Grants.{granted_want}

-- what a lease tells of its host's index and of its start, and the stream of its connection that it may have
pub record Using (S : Type 0) : Type 0 where
  pub site : ℕ
  pub start : Start
  pub stream : Option S

-- a lease tells that, and was made at its host's tables
pub record Leasing (S : Type 0) : Type 0 where
  pub site : ℕ
  pub start : Start
  pub stream : Option S
  pub tables : Tables

abbrev pub lease_at : {S : Type 0} → Tables → Using S → Leasing S
lease_at tables used = record { site = used.site; start = used.start; stream = used.stream; tables = tables }

abbrev pub IsMadeAt : {S : Type 0} → Tables → Leasing S → Type 0
IsMadeAt tables lease = lease.tables ≡ tables

-- on a new connection, which has no stream yet; and on one that was idle, with its stream
abbrev pub new_use : {S : Type 0} → ℕ → ℕ → Want → ℕ → Using S
new_use host number want moment = record { site = host; start = record { number = number; want = want; moment = moment; reused = false }; stream = None }

abbrev pub reuse_of : {S : Type 0} → ℕ → ℕ → Want → ℕ → S → Using S
reuse_of host number want moment stream = record { site = host; start = record { number = number; want = want; moment = moment; reused = true }; stream = Some stream }

-- a ticket tells of its host's index and of its wait, and was made at its host's tables
pub record Ticketed : Type 0 where
  pub site : ℕ
  pub wait : Wait
  pub tables : Tables

-- a booking tells of its host's index and of what its acquire, which is halfway, wants
pub record Booked : Type 0 where
  pub site : ℕ
  pub want : Want

-- a host: its log, how many of the log's entries were cut away, its first limit and first number, its index, the
-- streams by number (of its idle connections, and of those granted ones that came back and are not claimed), the
-- starts that it granted and that are not claimed, the transfers whose acquire is halfway, and its tables
pub record HostShown (S : Type 0) : Type 0 where
  pub log : List Entry
  pub cut_away : ℕ
  pub settings : LimitAndFirst
  pub host : ℕ
  pub streams : List (ℕ × S)
  pub unclaimed : List Start
  pub booked : List ℕ
  pub tables : Tables

-- those of its log's entries that were cut away
abbrev pub cut_entries : {S : Type 0} → HostShown S → List Entry
cut_entries host = drop (length host.log - host.cut_away) host.log

-- what a cut hands out: the others, oldest first, where the log may be cut; and why it hands out none
pub record IsPartOf {S : Type 0} (host : HostShown S) (part : List Entry) : Type 0 where
  pub entries : part ≡ drop host.cut_away (reverse host.log)
  pub not_exhausted : is_too_long_to_cut host.log ≡ false

abbrev pub cut_refusal : {S : Type 0} → HostShown S → Refusal
cut_refusal host = if is_too_long_to_cut host.log then Exhausted else Memory

-- who starts
abbrev pub starters : List Start → List ℕ
starters starts = map (λ (s : Start). s.want.transfer) starts

-- the start that a transfer was granted
abbrev pub start_for : List Start → ℕ → Option Start
start_for [] transfer = None
start_for (s ∷ others) transfer = if s.want.transfer == transfer then Some s else start_for others transfer

-- the transfer was granted a connection that it has not claimed
abbrev pub is_unclaimed : {S : Type 0} → HostShown S → ℕ → Bool
is_unclaimed host transfer = is_among transfer (starters host.unclaimed)

-- the connection that a transfer has a lease of: the one that it holds, unless it has yet to claim it
abbrev pub lease_number : {S : Type 0} → HostShown S → ℕ → Option ℕ
lease_number host transfer = if is_unclaimed host transfer then None else held_number host.log transfer

-- the connection was idle before it was granted, and is not claimed
abbrev pub awaits_claim : {S : Type 0} → HostShown S → ℕ → Bool
awaits_claim host c = list_any (λ (s : Start). (s.number == c) && s.reused) host.unclaimed

-- the host has the streams of its idle connections, and of those granted ones that were idle before and are
-- not claimed; it has no other
abbrev pub HasItsStreams : {S : Type 0} → HostShown S → Type 0
HasItsStreams host = (c : ℕ) → is_some (stream_of host.streams c) ≡ (is_idle host.log c || awaits_claim host c)

-- a start that is not claimed is the last one of its transfer, which holds that connection
pub record IsStartOf (log : List Entry) (granted : Start) : Type 0 where
  pub holds : held_number log granted.want.transfer ≡ Some granted.number
  pub last : last_start log granted.want.transfer ≡ Some granted

abbrev pub UnclaimedAreStarts : {S : Type 0} → HostShown S → Type 0
UnclaimedAreStarts host = (transfer : ℕ) (granted : Start) → start_for host.unclaimed transfer ≡ Some granted → IsStartOf host.log granted

-- the want of the ticket that a transfer has: it waits with it, or was granted for it what it has yet to claim
abbrev pub ticket_want : {S : Type 0} → HostShown S → ℕ → Option Want
ticket_want host transfer = if is_unclaimed host transfer then granted_want host.log transfer else waiting_want (waiting host.log) transfer

abbrev pub is_same_want : Want → Want → Bool
is_same_want x y = (x.transfer == y.transfer) && (x.max_age == y.max_age) && (x.max_life == y.max_life) && (x.lane == y.lane) && beq x.fresh y.fresh && beq x.forbid_reuse y.forbid_reuse

-- a ticket is no stranger where its transfer waits with its want, or has yet to claim what it was granted for it
abbrev pub is_valid_ticket : {S : Type 0} → HostShown S → Want → Bool
is_valid_ticket host want = option_map_or (is_same_want want) (ticket_want host want.transfer) false

-- a host without connections
abbrev pub IsNewHost : {S : Type 0} → ℕ → ℕ → ℕ → HostShown S → Type 0
IsNewHost limit index first bundle = bundle ≡ record { log = []; cut_away = 0; settings = record { limit = limit; first = first }; host = index; streams = []; unclaimed = []; booked = []; tables = bundle.tables }

-- the transfer holds the lease's connection, as the log shows
abbrev pub is_held_lease : {S : Type 0} → HostShown S → Leasing S → Bool
is_held_lease host lease = is_held_by host.log lease.start.want.transfer lease.start.number

-- the lease of the start that the transfer was granted and has yet to claim
abbrev pub WasGranted : {S : Type 0} → HostShown S → ℕ → Leasing S → Type 0
WasGranted host transfer lease = (start_for host.unclaimed transfer ≡ Some lease.start) × (lease.site ≡ host.host)

-- where its connection was idle before, the lease has the stream that was kept under its number; else none
abbrev pub HasItsStream : {S : Type 0} → List (ℕ × S) → Leasing S → Type 0
HasItsStream streams lease = lease.stream ≡ (if lease.start.reused then stream_of streams lease.start.number else None)

-- where the lease's connection is still open, the host has the lease's stream under its number
abbrev pub KeepsItsStream : {S : Type 0} → HostShown S → Leasing S → Type 0
KeepsItsStream host lease = is_open host.log lease.start.number ≡ true → stream_of host.streams lease.start.number ≡ lease.stream

-- every connection that is still open keeps its stream
abbrev pub KeepsStreams : {S : Type 0} → HostShown S → HostShown S → Type 0
KeepsStreams old new = (d : ℕ) → is_open new.log d ≡ true → stream_of new.streams d ≡ stream_of old.streams d

-- every other connection that is still open keeps its stream
abbrev pub KeepsOthers : {S : Type 0} → ℕ → HostShown S → HostShown S → Type 0
KeepsOthers c old new = (d : ℕ) → (c == d) ≡ false → is_open new.log d ≡ true → stream_of new.streams d ≡ stream_of old.streams d

-- who has a lease, and who a ticket, once the transfer has the lease of that connection
pub record GetsLease {S : Type 0} (old new : HostShown S) (transfer c : ℕ) : Type 0 where
  pub leases : (t : ℕ) → lease_number new t ≡ (if transfer == t then Some c else lease_number old t)
  pub tickets : (t : ℕ) → ticket_want new t ≡ (if transfer == t then None else ticket_want old t)

-- the same once a transfer has the ticket of a wait
pub record GetsTicket {S : Type 0} (old new : HostShown S) (want : Want) : Type 0 where
  pub leases : (t : ℕ) → lease_number new t ≡ lease_number old t
  pub tickets : (t : ℕ) → ticket_want new t ≡ (if want.transfer == t then Some want else ticket_want old t)

-- and once the transfer has spent what it had
pub record Spends {S : Type 0} (old new : HostShown S) (transfer : ℕ) : Type 0 where
  pub leases : (t : ℕ) → lease_number new t ≡ (if transfer == t then None else lease_number old t)
  pub tickets : (t : ℕ) → ticket_want new t ≡ (if transfer == t then None else ticket_want old t)
  pub unclaimed : is_unclaimed new transfer ≡ false

-- nobody's lease or ticket changes
pub record KeepsAll {S : Type 0} (old new : HostShown S) : Type 0 where
  pub leases : (t : ℕ) → lease_number new t ≡ lease_number old t
  pub tickets : (t : ℕ) → ticket_want new t ≡ ticket_want old t

-- the booking is this host's: its transfer's acquire is halfway here
abbrev pub IsBookedHere : {S : Type 0} → HostShown S → Booked → Type 0
IsBookedHere host booking = (booking.site ≡ host.host) × (is_among booking.want.transfer host.booked ≡ true)

-- the host stays what it is, and nothing is cut away from its log
pub record StaysThere {S : Type 0} (old new : HostShown S) : Type 0 where
  pub settings : new.settings ≡ old.settings
  pub host : new.host ≡ old.host
  pub tables : new.tables ≡ old.tables
  pub cut_away : new.cut_away ≡ old.cut_away
