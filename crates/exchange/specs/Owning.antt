-- What a transfer has where it stands: it was made by the cache that it is lent, and can be used there.
use Rattle.std.specs.Prelude.{◌≡◌, ◌<◌, false, length, List, None, Option, IsSome, IsSomeAnd}
use Rattle.bundle.specs.Seats.{Tables}
use Rattle.bundle.specs.Lease.{Leasing, Ticketed}
use Rattle.cache_trait.specs.Homes.{IsMadeBy}
use Rattle.exchange.specs.declared.job.Prepared.{Prepared}
use Rattle.exchange.specs.declared.state.State.{State}
use Rattle.exchange.specs.declared.state.State.TheVariants.{Asking, Waiting, Dialling, Sending, Reading, Finished}
use Rattle.exchange.specs.Answers.{text_of}

-- what it needs at all times: a text, and room to read into
pub record IsReady (p : Prepared) : Type 0 where
  pub text : 0 < length (text_of p)
  pub room : 0 < length p.buffer.items

-- a lease was made there
abbrev pub OwnsLease : {W : Type 0} → List Tables → Leasing W → Type 0
OwnsLease home lease = IsMadeBy home lease.site lease.tables

-- a ticket was made there
abbrev pub OwnsTicket : List Tables → Ticketed → Type 0
OwnsTicket home ticket = IsMadeBy home ticket.site ticket.tables

-- a lease was made there, and it has its wire
abbrev pub OwnsWire : {W : Type 0} → List Tables → Leasing W → Type 0
OwnsWire home lease = OwnsLease home lease × (IsSome lease.stream)

-- its reader was not told that its connection has ended
abbrev pub ReaderGoesOn : Prepared → Type 0
ReaderGoesOn p = p.reader.ended ≡ false

-- what it has was made there, and the next step can be taken
abbrev pub OwnsAt : {W : Type 0} → List Tables → Prepared → State W → Type 0
OwnsAt home p Asking = ReaderGoesOn p
OwnsAt home p (Waiting ticket) = OwnsTicket home ticket × ((ticket.wait.want.transfer ≡ p.want.transfer) × ReaderGoesOn p)
OwnsAt home p (Dialling lease) = OwnsLease home lease × ((lease.stream ≡ None) × ((lease.start.reused ≡ false) × ((lease.start.want.transfer ≡ p.want.transfer) × ReaderGoesOn p)))
OwnsAt home p (Sending lease sent) = OwnsWire home lease × ((sent < length (text_of p)) × ReaderGoesOn p)
OwnsAt home p (Reading lease) = OwnsWire home lease × ReaderGoesOn p
OwnsAt home p (Finished done) = Unit {0}

abbrev pub Owns : {W : Type 0} → List Tables → Prepared → Option (State W) → Type 0
Owns home p state = IsSomeAnd state (OwnsAt home p)
