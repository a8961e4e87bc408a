-- What the calls of a pool with slots do.
use Rattle.std.specs.Prelude.{◌≡◌, ◌⊎◌, ℕ, Bool, nat_lt, ◌==◌, ◌&&◌, if◌then◌else◌, List, length, filter_map, option_map, Option, Some, None, is_some, Result, Err}
use Rattle.persistence.specs.declared.facts.Facts.{Facts}
use Rattle.persistence.specs.declared.answer.Fed.{Fed}
use Rattle.persistence.specs.Reader.{Reading}
use Rattle.conn_log.specs.declared.entry.Want.{Want}
use Rattle.conn_log.specs.Connections.{open_connections}
use Rattle.conn_log.specs.Waiting.{waiting}
use Rattle.budget.specs.declared.refusal.Refusal.{Refusal}
use Rattle.budget.specs.declared.refusal.Refusal.TheVariants.{Memory}
use Rattle.bundle.specs.Lease.{Leasing, Ticketed}
use Rattle.bundle.specs.declared.answers.Acquired.{Acquired}
use Rattle.bundle.specs.declared.answers.Acquired.TheVariants.{Lease, Wait}
use Rattle.cache_trait.specs.CacheCalls.{CacheCall, GivesBy}
use Rattle.cache_trait.specs.CacheCalls.CacheCall.{grants, gives_back, abandons, withdraws}
use Rattle.cache_trait.specs.Homes.{Gives}
use Rattle.cache.specs.Pools.{PoolShown, host_at}
use Rattle.cache.specs.PoolCalls.{home_of, DidToPool, KeepsTicket, IsRefusalOf}
use Rattle.held_pool.specs.declared.slot_place.Place.{Place}
use Rattle.held_pool.specs.declared.slot.Slot.{Slot}
use Rattle.held_pool.specs.Slots.{value_in, ChangesPlace, SamePlaces, Puts, Takes, filled}
use Rattle.held_pool.specs.declared.slot_reader.SlotReader.{SlotReader}
use Rattle.held_pool.specs.declared.response.FeedError.{FeedError}
use Rattle.held_pool.specs.declared.response.FeedError.TheVariants.{NoReader}
use Rattle.held_pool.specs.Readers.{ChangesReader, FeedsSlot, reading_in, TellsFactsOfSome}
use Rattle.conn_key.specs.Hosts.{Hosts}
use Rattle.held_pool.specs.declared.answers.SlotAnswer.{SlotAnswer}
use Rattle.held_pool.specs.declared.answers.SlotAnswer.TheVariants as got
use Rattle.held_pool.specs.declared.answers.SlotError.{SlotError}
use Rattle.held_pool.specs.declared.answers.SlotError.TheVariants.{Stranger, Unattached, Attached, Unread}

-- a pool with slots: the pool, with the tokens of its connections, what its slots hold, the closed tokens that were
-- gathered and are not told yet, the readers of the slots, and which host has which site
pub record HeldShown : Type 0 where
  pub pool : PoolShown ℕ
  pub places : List (Place (Acquired ℕ))
  pub closed : List ℕ
  pub readers : List SlotReader
  pub hosts : Hosts

-- nothing but the pool and what the slots hold may have changed
pub record HasSameRest (old new : HeldShown) : Type 0 where
  pub closed : new.closed ≡ old.closed
  pub readers : new.readers ≡ old.readers
  pub hosts : new.hosts ≡ old.hosts

-- what the caller is told that its transfer got: a new connection, an idle one with its token, or a wait
abbrev pub told_stream : Option ℕ → SlotAnswer
told_stream None = got.New
told_stream (Some token) = got.Reused token

abbrev pub got_of : Acquired ℕ → SlotAnswer
got_of (Lease lease) = told_stream lease.stream
got_of (Wait ticket) = got.Wait

-- an acquire of the pool gave what the slot holds from then on
pub record AcquiresSlot (old new : HeldShown) (site : ℕ) (want : Want) (now : ℕ) (given : Slot × SlotAnswer) : Type 0 where
  pub acquired : Acquired ℕ
  pub is_for : Gives (home_of new.pool) site want acquired
  pub done : GivesBy (DidToPool old.pool new.pool) now acquired
  pub puts : Puts old.places new.places given.0 acquired
  pub told : given.1 ≡ got_of acquired

-- an acquire was refused as the pool refuses it, or for want of memory for its slot
abbrev pub RefusesSlot : HeldShown → ℕ → Want → Refusal → Type 0
RefusesSlot old site want reason = (reason ≡ Memory) ⊎ IsRefusalOf old.pool site want reason

-- why no token can be attached there: the slot has no lease, or its lease has its token
abbrev pub attach_fault : Option (Acquired ℕ) → Option SlotError
attach_fault (Some (Lease lease)) = if is_some lease.stream then Some Attached else None
attach_fault _ = Some Stranger

-- the new connection of the slot's lease has its token
pub record Attaches (old new : HeldShown) (slot : Slot) (token : ℕ) : Type 0 where
  pub lease : Leasing ℕ
  pub its : value_in old.places slot ≡ Some (Lease lease)
  pub changes : ChangesPlace old.places new.places slot.index (filled slot.generation (Lease (record lease { stream = Some token })))
  pub pool : new.pool ≡ old.pool

-- a claim for a ticket gave what the slot holds from then on: its lease, or the ticket while it still waits
abbrev pub ClaimsTicket : PoolShown ℕ → PoolShown ℕ → Ticketed → Acquired ℕ → Type 0
ClaimsTicket old new ticket (Lease lease) = DidToPool old new (grants lease) × (lease.site ≡ ticket.site) × (lease.start.want ≡ ticket.wait.want)
ClaimsTicket old new ticket (Wait same) = KeepsTicket old new ticket × (same ≡ ticket)

pub record ClaimsSlot (old new : HeldShown) (slot : Slot) (ticket : Ticketed) (got : SlotAnswer) : Type 0 where
  pub claimed : Acquired ℕ
  pub done : ClaimsTicket old.pool new.pool ticket claimed
  pub changes : ChangesPlace old.places new.places slot.index (filled slot.generation claimed)
  pub told : got ≡ got_of claimed

-- a claim by slot: for a lease, which was claimed before, the same is told again
abbrev pub ClaimsHeld : HeldShown → HeldShown → Slot → SlotAnswer → Option (Acquired ℕ) → Type 0
ClaimsHeld old new slot got (Some (Lease lease)) = ((new.pool ≡ old.pool) × SamePlaces old.places new.places) × (got ≡ got_of (Lease lease))
ClaimsHeld old new slot got (Some (Wait ticket)) = ClaimsSlot old new slot ticket got
ClaimsHeld old new slot got None = ⊥

-- why a lease cannot be given back, or abandoned, and why a ticket cannot be withdrawn
abbrev pub lease_fault : Option (Acquired ℕ) → Option SlotError
lease_fault (Some (Lease lease)) = None
lease_fault _ = Some Stranger

abbrev pub back_fault : Option (Acquired ℕ) → Option SlotError
back_fault (Some (Lease lease)) = if is_some lease.stream then None else Some Unattached
back_fault _ = Some Stranger

abbrev pub ticket_fault : Option (Acquired ℕ) → Option SlotError
ticket_fault (Some (Wait ticket)) = None
ticket_fault _ = Some Stranger

-- the slot's lease came back to the pool with these facts
pub record GivesBackSlot (old new : HeldShown) (slot : Slot) (facts : Facts) (now : ℕ) : Type 0 where
  pub lease : Leasing ℕ
  pub takes : Takes old.places new.places slot (Lease lease)
  pub done : DidToPool old.pool new.pool (gives_back lease facts now)

-- it was abandoned
pub record AbandonsSlot (old new : HeldShown) (slot : Slot) (now : ℕ) : Type 0 where
  pub lease : Leasing ℕ
  pub takes : Takes old.places new.places slot (Lease lease)
  pub done : DidToPool old.pool new.pool (abandons lease now)

-- the slot's ticket was withdrawn
pub record WithdrawsSlot (old new : HeldShown) (slot : Slot) (now : ℕ) : Type 0 where
  pub ticket : Ticketed
  pub takes : Takes old.places new.places slot (Wait ticket)
  pub done : DidToPool old.pool new.pool (withdraws ticket now)

-- how what a place holds is ended: a lease is abandoned, a ticket withdrawn
abbrev pub ending_of : ℕ → Acquired ℕ → CacheCall ℕ
ending_of now (Lease lease) = abandons lease now
ending_of now (Wait ticket) = withdraws ticket now

-- it was ended, if there was something
abbrev pub EndsHeld : PoolShown ℕ → PoolShown ℕ → ℕ → Option (Acquired ℕ) → Type 0
EndsHeld old new now (Some held) = DidToPool old new (ending_of now held)
EndsHeld old new now None = new ≡ old

-- how all that places hold is ended, the last place first: the newest call stands first
abbrev pub endings_in : ℕ → List (Place (Acquired ℕ)) → List (CacheCall ℕ)
endings_in now places = filter_map (λ (place : Place (Acquired ℕ)). option_map (ending_of now) place.held) places

-- a site is unused: no connection is open there, and nobody waits
abbrev pub is_unused_site : PoolShown ℕ → ℕ → Bool
is_unused_site pool site = nat_lt site (length pool.hosts) && (let log = (host_at pool site).log in (length (open_connections log) == 0) && (length (waiting log) == 0))

-- the response of a slot that has a lease is begun
pub record BeginsResponse (old new : HeldShown) (slot : Slot) (reading : Reading) : Type 0 where
  pub leased : lease_fault (value_in old.places slot) ≡ None
  pub changes : ChangesReader old.readers new.readers slot reading
  pub left : new ≡ record old { readers = new.readers }

-- a piece is fed to the reader of a slot that has a lease; else there is no reader
abbrev pub FeedsHeld : HeldShown → HeldShown → Slot → List ℕ → Result Fed FeedError → Option (Acquired ℕ) → Type 0
FeedsHeld old new slot piece result (Some (Lease lease)) = FeedsSlot old.readers new.readers slot piece result
FeedsHeld old new slot piece result _ = (result ≡ Err NoReader) × (new ≡ old)

-- the slot's lease came back with the facts that its reader told
pub record GivesBackRead (old new : HeldShown) (slot : Slot) (now : ℕ) : Type 0 where
  pub facts : Facts
  pub told : TellsFactsOfSome (reading_in old.readers slot) facts
  pub back : GivesBackSlot old new slot facts now

-- the response that is read for the lease of a slot; none where it has no lease
abbrev pub read_for : Option (Acquired ℕ) → Option Reading → Option Reading
read_for (Some (Lease lease)) reading = reading
read_for _ reading = None

abbrev pub reading_for : HeldShown → Slot → Option Reading
reading_for held slot = read_for (value_in held.places slot) (reading_in held.readers slot)

-- why it did not: nothing is read for the slot, or else as where the caller tells the facts
abbrev pub fault_of_read : Option Reading → Option (Acquired ℕ) → Option SlotError
fault_of_read None held = Some Unread
fault_of_read (Some reading) held = back_fault held

abbrev pub read_fault : HeldShown → Slot → Option SlotError
read_fault held slot = fault_of_read (reading_in held.readers slot) (value_in held.places slot)

-- pool and places are as before
abbrev pub HoldsSame : HeldShown → HeldShown → Type 0
HoldsSame old new = (new.pool ≡ old.pool) × SamePlaces old.places new.places

-- the slot's ticket was claimed: the slot has the lease that its transfer was granted
pub record GrantsSlot (old new : HeldShown) (slot : Slot) : Type 0 where
  pub ticket : Ticketed
  pub its : value_in old.places slot ≡ Some (Wait ticket)
  pub lease : Leasing ℕ
  pub done : ClaimsTicket old.pool new.pool ticket (Lease lease)
  pub changes : ChangesPlace old.places new.places slot.index (filled slot.generation (Lease lease))
