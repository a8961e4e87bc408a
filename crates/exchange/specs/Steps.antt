-- What the parts of a step leave.
use Rattle.std.specs.Prelude.{◌≡◌, ◌≢◌, ℕ, ◌+◌, ◌≤◌, Bool, true, false, if◌then◌else◌, Some, None, ◌⊎◌, List, [], ◌++◌, take}
use Rattle.streams.specs.RisingCounts.{Rises}
use Rattle.persistence.specs.declared.facts.Facts.{Facts}
use Rattle.persistence.specs.Split.{Parts, IsSplit}
use Rattle.bundle.specs.Lease.{Leasing}
use Rattle.exchange.specs.declared.job.Prepared.{Prepared}
use Rattle.exchange.specs.declared.done.Fault.{Fault}
use Rattle.exchange.specs.declared.done.Fault.TheVariants.{Dial, Read, Write}
use Rattle.exchange.specs.declared.done.Done.TheVariants.{Bad}
use Rattle.exchange.specs.declared.state.State.{State}
use Rattle.exchange.specs.declared.state.State.TheVariants.{Asking, Waiting, Dialling, Sending, Reading, Finished}
use Rattle.exchange.specs.Wires.{Carried, Happening}
use Rattle.exchange.specs.Wires.Happening.{is_adopted}
use Rattle.cache_trait.specs.CacheCalls.{CacheCall}
use Rattle.cache_trait.specs.CacheCalls.CacheCall.{gives_back, finds_strange_lease}
use Rattle.exchange.specs.Worlds.{World, OnWire}
use Rattle.exchange.specs.Since.{Outset, DoneSince}
use Rattle.exchange.specs.Answers.{text_of, NoneFailed, GoesWell, FailsReading, FailsWriting, IsEnded, IsFruitless, may_retry}
use Rattle.exchange.specs.Story.{Has}
use Rattle.exchange.specs.Standing.{StandsFrom}

-- a step of the lease's wire: this holds of it before and after, and nothing else of the lease changes
pub record StepsWire {W : Type 0} (old new : Leasing W) (P : W → W → Type 0) : Type 0 where
  pub before : W
  pub after : W
  pub was : old.stream ≡ Some before
  pub is_now : new ≡ record old { stream = Some after }
  pub stepped : P before after

-- a lease begins: on a new connection, which has no wire yet, or on a reused one, whose wire is adopted
abbrev pub Begins : {W : Type 0} → (W → W → Happening → Type 0) → Leasing W → State W → Type 0
Begins happened lease (Dialling same) = (same ≡ lease) × (lease.stream ≡ None) × (lease.start.reused ≡ false)
Begins happened lease (Sending same sent) = StepsWire lease same (λ old new. happened old new is_adopted) × (sent ≡ 0)
Begins happened lease _ = ⊥

-- a lease was given back at that moment, or taken for a stranger
abbrev pub IsGivenBack : {W : Type 0} → (CacheCall W → Type 0) → Leasing W → Facts → ℕ → Bool → Type 0
IsGivenBack did lease facts now true = did (gives_back lease facts now)
IsGivenBack did lease facts now false = did (finds_strange_lease lease)

-- all that was done gave it a lease, and this holds of what its wire carried since; since that outset nothing else was
-- done
pub record LeasedFrom {C W : Type 0} (did : C → C → CacheCall W → Type 0) (world : World W) (p : Prepared) (first : Outset C W) (cache : C) (lease : Leasing W) (P : Carried → Type 0) : Type 0 where
  pub given : Leasing W
  pub calls : List (CacheCall W)
  pub done : DoneSince did first cache calls
  pub has : Has world p given lease calls
  pub wire : OnWire world given lease P

-- whatever was done before, it goes on from a lease of which that held
abbrev pub LeadsOn : {C W : Type 0} → (C → C → CacheCall W → Type 0) → World W → Prepared → Prepared → C → C → Leasing W → (Carried → Type 0) → State W → Type 0
LeadsOn {C} {W} did world old new before after lease P next = (first : Outset C W) → LeasedFrom did world old first before lease P → StandsFrom did world new first after next

-- the connection failed so
abbrev pub Fails : Prepared → Fault → Carried → Type 0
Fails p Read wire = FailsReading p wire
Fails p Write wire = FailsWriting p wire
Fails p _ wire = ⊥

-- a fault of the wire
abbrev pub IsWireFault : Fault → Type 0
IsWireFault fault = (fault ≡ Read) ⊎ (fault ≡ Write)

-- what the reader was fed is what the wire received, without a fault
pub record IsFed (p : Prepared) (wire : Carried) : Type 0 where
  pub bytes : p.reader.bytes ≡ wire.received
  pub faultless : p.reader.fault ≡ None
  pub method : p.reader.method ≡ p.method
  pub close : p.reader.request_close ≡ p.want.forbid_reuse

-- it was, and the connection bore no fruit
pub record IsRetriable (p : Prepared) (wire : Carried) : Type 0 where
  pub fed : IsFed p wire
  pub fruitless : IsFruitless p wire

-- it was, and the connection failed so
pub record FailsSo (p : Prepared) (fault : Fault) (wire : Carried) : Type 0 where
  pub fed : IsFed p wire
  pub fails : Fails p fault wire

-- the reader, if its wire has ended and it was not told so yet
pub record IsAtEnd (p : Prepared) (wire : Carried) : Type 0 where
  pub ended : IsEnded p wire
  pub fed : IsFed p wire

-- so many bytes of the buffer have come, which the reader was not fed yet
pub record HasCome (p : Prepared) (count : ℕ) (wire : Carried) : Type 0 where
  pub sent : wire.sent ≡ text_of p
  pub bytes : wire.received ≡ p.reader.bytes ++ take count p.buffer.items
  pub well : GoesWell wire
  pub reading : p.reader.ended ≡ false
  pub faultless : p.reader.fault ≡ None
  pub method : p.reader.method ≡ p.method
  pub close : p.reader.request_close ≡ p.want.forbid_reuse

-- the reader, at an end: the wire has ended, and the request may not be sent once more, or the response is whole
pub record CanSettle (p : Prepared) (reused : Bool) (wire : Carried) : Type 0 where
  pub sent : wire.sent ≡ text_of p
  pub unfailed : NoneFailed wire
  pub fed : IsFed p wire
  pub ended : p.reader.ended ≡ wire.ended
  pub over : ((wire.ended ≡ true) × (may_retry p.retried reused wire.received ≡ false)) ⊎ ((parts : Parts) × IsSplit p.method wire.received wire.ended parts)

-- no dial has failed
abbrev pub HasNoDialFault : {W : Type 0} → State W → Type 0
HasNoDialFault (Finished (Bad Dial)) = ⊥
HasNoDialFault _ = Unit {0}

-- a dial has failed, so that its count rose, if that is what came of it, and only then
abbrev pub DialFails : {W : Type 0} → ℕ → ℕ → State W → Type 0
DialFails old new (Finished (Bad Dial)) = Rises old new
DialFails old new _ = new ≡ old

-- how many connections it may still open: one, until its wire is there; a reused one leaves that one for sending the
-- request once more
abbrev pub may_open : {W : Type 0} → Prepared → State W → ℕ
may_open p Asking = 1
may_open p (Waiting ticket) = 1
may_open p (Dialling lease) = 1
may_open p (Sending lease sent) = if may_retry p.retried lease.start.reused [] then 1 else 0
may_open p (Reading lease) = if may_retry p.retried lease.start.reused [] then 1 else 0
may_open p (Finished done) = 0

-- it may open no more than before
abbrev pub OpensNoMore : {W : Type 0} → Prepared → Prepared → State W → State W → Type 0
OpensNoMore p q state next = may_open q next ≤ may_open p state

-- it opens no more than it may: so many were opened before, and so many after
abbrev pub Opens : {W : Type 0} → Prepared → Prepared → State W → ℕ → ℕ → State W → Type 0
Opens p q state old new next = new + may_open q next ≤ old + may_open p state

-- nothing is begun at the dial for a transfer, but while it dials
abbrev pub BeginsNone : {W : Type 0} → (ℕ → Type 0) → ℕ → State W → Type 0
BeginsNone begun transfer (Dialling lease) = Unit {0}
BeginsNone begun transfer _ = begun transfer → ⊥

-- for no other transfer anything was begun, and what was begun for others still is; and for this one nothing is begun,
-- but while it dials, if that was so
pub record DialsAlone {W : Type 0} (old new : ℕ → Type 0) (transfer : ℕ) (state next : State W) : Type 0 where
  pub others : (other : ℕ) → other ≢ transfer → new other → old other
  pub kept : (other : ℕ) → other ≢ transfer → old other → new other
  pub own : BeginsNone old transfer state → BeginsNone new transfer next
