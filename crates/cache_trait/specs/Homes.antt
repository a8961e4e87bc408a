-- Which leases and tickets a cache has made, and what it gives.
use Rattle.std.specs.Prelude.{◌≡◌, ℕ, List, Some, slice_get, is_some}
use Rattle.conn_log.specs.declared.entry.Want.{Want}
use Rattle.bundle.specs.Seats.{Tables}
use Rattle.bundle.specs.Lease.{Leasing, Ticketed}
use Rattle.bundle.specs.declared.answers.Acquired.{Acquired}
use Rattle.bundle.specs.declared.answers.Acquired.TheVariants.{Lease, Wait}
use Rattle.bundle.specs.declared.answers.Claimed.{Claimed}
use Rattle.bundle.specs.declared.answers.Claimed.TheVariants.{Lease as Granted, Still}

-- a lease or a ticket of that site, made at those tables, was made by the cache whose hosts have these
abbrev pub IsMadeBy : List Tables → ℕ → Tables → Type 0
IsMadeBy home site tables = slice_get home site ≡ Some tables

-- a lease of that site for that want, made there; a reused connection has its stream, and a new one has none
pub record IsLeaseFor {S : Type 0} (home : List Tables) (site : ℕ) (want : Want) (lease : Leasing S) : Type 0 where
  pub here : IsMadeBy home lease.site lease.tables
  pub site_is : lease.site ≡ site
  pub want_is : lease.start.want ≡ want
  pub wire : is_some lease.stream ≡ lease.start.reused

-- a ticket of that site for that want, made there
pub record IsTicketFor (home : List Tables) (site : ℕ) (want : Want) (ticket : Ticketed) : Type 0 where
  pub here : IsMadeBy home ticket.site ticket.tables
  pub site_is : ticket.site ≡ site
  pub want_is : ticket.wait.want ≡ want

-- what an acquire gives
abbrev pub Gives : {S : Type 0} → List Tables → ℕ → Want → Acquired S → Type 0
Gives home site want (Lease lease) = IsLeaseFor home site want lease
Gives home site want (Wait ticket) = IsTicketFor home site want ticket

-- what a claim gives for a ticket
abbrev pub Claims : {S : Type 0} → List Tables → Ticketed → Claimed S → Type 0
Claims home ticket (Granted lease) = IsLeaseFor home ticket.site ticket.wait.want lease
Claims home ticket (Still same) = same ≡ ticket
