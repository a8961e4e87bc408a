-- Where a transfer stands: what it has, what it has sent and read, and what came of it.
use Rattle.std.specs.Prelude.{◌≡◌, ℕ, Bool, true, false, ◌∷◌, List, None, ◌⊎◌}
use Rattle.persistence.specs.declared.facts.Facts.{Facts}
use Rattle.budget.specs.declared.refusal.Refusal.{Refusal}
use Rattle.budget.specs.declared.refusal.Refusal.TheVariants.{StrangeLease, StrangeTicket}
use Rattle.bundle.specs.Lease.{Leasing, Ticketed}
use Rattle.exchange.specs.declared.job.Prepared.{Prepared}
use Rattle.exchange.specs.declared.done.Answer.{Answer}
use Rattle.exchange.specs.declared.done.Fault.{Fault}
use Rattle.exchange.specs.declared.done.Fault.TheVariants.{Memory, Dial, Read, Write, BadResponse, Cut, Refused, Cancelled}
use Rattle.exchange.specs.declared.done.Done.{Done}
use Rattle.exchange.specs.declared.done.Done.TheVariants.{Good, Bad}
use Rattle.exchange.specs.declared.state.State.{State}
use Rattle.exchange.specs.declared.state.State.TheVariants.{Asking, Waiting, Dialling, Sending, Reading, Finished}
use Rattle.exchange.specs.Wires.{Carried}
use Rattle.cache_trait.specs.CacheCalls.{CacheCall}
use Rattle.cache_trait.specs.CacheCalls.CacheCall.{refuses, finds_strange_ticket}
use Rattle.exchange.specs.Worlds.{World, OnWire}
use Rattle.exchange.specs.Since.{Outset, DoneSince}
use Rattle.exchange.specs.Answers.{unread, wanted, IsSent, ReadsWire, IsAnswer, IsFaulty, IsCut, FailsReading, FailsWriting, IsWhole, IsFruitless, may_retry}
use Rattle.exchange.specs.Story.{WaitsFor, Asks, Has, IsReturn, IsDrop, IsStray}

-- it asks, waits or dials: its reader was fed nothing
pub record IsAsking {W : Type 0} (world : World W) (p : Prepared) (calls : List (CacheCall W)) : Type 0 where
  pub reader : p.reader ≡ unread p
  pub asks : Asks world p calls

pub record IsWaiting {W : Type 0} (world : World W) (p : Prepared) (ticket : Ticketed) (calls : List (CacheCall W)) : Type 0 where
  pub reader : p.reader ≡ unread p
  pub waits : WaitsFor world (Asks world p) p.site (wanted p) ticket calls

pub record IsDialling {W : Type 0} (world : World W) (p : Prepared) (lease : Leasing W) (calls : List (CacheCall W)) : Type 0 where
  pub reader : p.reader ≡ unread p
  pub has : Has world p lease lease calls
  pub none : lease.stream ≡ None

-- a front of the request was sent, and nothing was read
pub record IsSending {W : Type 0} (world : World W) (p : Prepared) (lease : Leasing W) (sent : ℕ) (calls : List (CacheCall W)) : Type 0 where
  pub given : Leasing W
  pub reader : p.reader ≡ unread p
  pub has : Has world p given lease calls
  pub wire : OnWire world given lease (IsSent p sent)

-- the request was sent whole, and all that came since was read
pub record IsReceiving {W : Type 0} (world : World W) (p : Prepared) (lease : Leasing W) (calls : List (CacheCall W)) : Type 0 where
  pub given : Leasing W
  pub has : Has world p given lease calls
  pub wire : OnWire world given lease (ReadsWire p)

-- a lease was given back with those facts, or taken for a stranger
abbrev pub Returns : {W : Type 0} → World W → Facts → Leasing W → CacheCall W → Type 0
Returns world facts lease call = IsReturn world facts lease call ⊎ IsStray lease call

-- a lease was abandoned, or taken for a stranger
abbrev pub Drops : {W : Type 0} → World W → Leasing W → CacheCall W → Type 0
Drops world lease call = IsDrop world lease call ⊎ IsStray lease call

-- its last lease was spent so; this held of whether its connection was reused, and of what its wire carried
pub record Spent {W : Type 0} (world : World W) (p : Prepared) (Spends : Leasing W → CacheCall W → Type 0) (P : Bool → Carried → Type 0) (calls : List (CacheCall W)) : Type 0 where
  pub given : Leasing W
  pub lease : Leasing W
  pub call : CacheCall W
  pub earlier : List (CacheCall W)
  pub last : calls ≡ call ∷ earlier
  pub spends : Spends lease call
  pub has : Has world p given lease earlier
  pub wire : OnWire world given lease (P lease.start.reused)

-- its last lease was given up, before its connection was open
pub record GaveUp {W : Type 0} (world : World W) (p : Prepared) (calls : List (CacheCall W)) : Type 0 where
  pub lease : Leasing W
  pub call : CacheCall W
  pub earlier : List (CacheCall W)
  pub last : calls ≡ call ∷ earlier
  pub drops : Drops world lease call
  pub has : Has world p lease lease earlier
  pub none : lease.stream ≡ None

-- the request may not be sent once more, and this holds
abbrev pub IsFinal : Prepared → (Carried → Type 0) → Bool → Carried → Type 0
IsFinal p P reused wire = (may_retry p.retried reused wire.received ≡ false) × P wire

-- the request may be sent once more, since its connection bore no fruit
abbrev pub MayRetry : Prepared → Bool → Carried → Type 0
MayRetry p reused wire = (may_retry p.retried reused wire.received ≡ true) × IsFruitless p wire

-- its response was whole, or its request would have been sent once more
abbrev pub WouldGoOn : Prepared → Bool → Carried → Type 0
WouldGoOn p reused wire = IsWhole p wire ⊎ MayRetry p reused wire

-- it was refused a connection
pub record WasRefused {W : Type 0} (world : World W) (p : Prepared) (refusal : Refusal) (calls : List (CacheCall W)) : Type 0 where
  pub earlier : List (CacheCall W)
  pub now : ℕ
  pub last : calls ≡ refuses p.site (wanted p) now refusal ∷ earlier
  pub told : world.tells now
  pub asks : Asks world p earlier

-- its ticket was taken for a stranger
pub record LostTicket {W : Type 0} (world : World W) (p : Prepared) (refusal : Refusal) (calls : List (CacheCall W)) : Type 0 where
  pub ticket : Ticketed
  pub earlier : List (CacheCall W)
  pub last : calls ≡ finds_strange_ticket ticket ∷ earlier
  pub waits : WaitsFor world (Asks world p) p.site (wanted p) ticket earlier
  pub refusal_is : refusal ≡ StrangeTicket

-- its lease was, if it would have gone on or been answered
pub record LostLease {W : Type 0} (world : World W) (p : Prepared) (refusal : Refusal) (calls : List (CacheCall W)) : Type 0 where
  pub spent : Spent world p IsStray (WouldGoOn p) calls
  pub refusal_is : refusal ≡ StrangeLease

-- a whole response: its lease was given back with its facts
abbrev pub IsGood : {W : Type 0} → World W → Prepared → Answer → List (CacheCall W) → Type 0
IsGood {W} world p answer calls = Spent world p (IsReturn world answer.facts) (λ reused wire. (answer.reused ≡ reused) × IsAnswer p answer wire) calls

-- no response: why, how its last lease was spent, and what its wire carried
abbrev pub IsBad : {W : Type 0} → World W → Prepared → Fault → List (CacheCall W) → Type 0
IsBad world p Memory calls = ⊥
IsBad world p Dial calls = GaveUp world p calls
IsBad world p Read calls = Spent world p (Drops world) (IsFinal p (FailsReading p)) calls
IsBad world p Write calls = Spent world p (Drops world) (IsFinal p (FailsWriting p)) calls
IsBad world p BadResponse calls = (facts : Facts) × Spent world p (Returns world facts) (λ reused. IsFaulty p facts) calls
IsBad world p Cut calls = (facts : Facts) × Spent world p (Returns world facts) (IsFinal p (IsCut p facts)) calls
IsBad world p (Refused refusal) calls = WasRefused world p refusal calls ⊎ (LostTicket world p refusal calls ⊎ LostLease world p refusal calls)
IsBad world p Cancelled calls = ⊥

abbrev pub Ends : {W : Type 0} → World W → Prepared → Done → List (CacheCall W) → Type 0
Ends world p (Good answer) calls = IsGood world p answer calls
Ends world p (Bad fault) calls = IsBad world p fault calls

abbrev pub StandsAt : {W : Type 0} → World W → Prepared → State W → List (CacheCall W) → Type 0
StandsAt world p Asking calls = IsAsking world p calls
StandsAt world p (Waiting ticket) calls = IsWaiting world p ticket calls
StandsAt world p (Dialling lease) calls = IsDialling world p lease calls
StandsAt world p (Sending lease sent) calls = IsSending world p lease sent calls
StandsAt world p (Reading lease) calls = IsReceiving world p lease calls
StandsAt world p (Finished done) calls = Ends world p done calls

-- all that was done led there, and since that outset nothing else was done
abbrev pub StandsFrom : {C W : Type 0} → (C → C → CacheCall W → Type 0) → World W → Prepared → Outset C W → C → State W → Type 0
StandsFrom {C} {W} did world p first cache state = (calls : List (CacheCall W)) × DoneSince did first cache calls × StandsAt world p state calls

-- whatever was done before, it goes on from where it stood
abbrev pub GoesOn : {C W : Type 0} → (C → C → CacheCall W → Type 0) → World W → Prepared → Prepared → C → C → State W → State W → Type 0
GoesOn {C} {W} did world old new before after state next = (first : Outset C W) → StandsFrom did world old first before state → StandsFrom did world new first after next
