-- What the calls of a shared cache answer.
use Rattle.std.specs.Prelude.{◌≡◌, ℕ, ◌<◌, ◌≤◌, is_some}
use Rattle.budget.specs.declared.refusal.Refusal.{Refusal}
use Rattle.budget.specs.declared.refusal.Refusal.TheVariants.{TransferBusy, Exhausted, Memory, BadLimit, Busy}
use Rattle.host_state.specs.Calls.{greatest_limit, kept_limit}
use Rattle.conn_log.specs.declared.entry.Want.{Want}
use Rattle.bundle.specs.declared.answers.Acquired.{Acquired}
use Rattle.bundle.specs.declared.answers.Acquired.TheVariants.{Lease, Wait}
use Rattle.bundle.specs.declared.answers.Got.{Got}
use Rattle.bundle.specs.declared.answers.Got.TheVariants.{Lease as GotLease, Wait as GotWait, NoRoom, Again}
use Rattle.bundle.specs.Lease.{Leasing, Ticketed}
use Rattle.shared_cache.specs.Names.{CacheNames, HasTables}

-- the lease was made by the cache of these names: at the tables of its host
abbrev pub IsMadeBy : {S : Type 0} → CacheNames → Leasing S → Type 0
IsMadeBy names lease = HasTables names lease.site lease.tables

-- and so was the ticket
abbrev pub IsTicketOf : CacheNames → Ticketed → Type 0
IsTicketOf names ticket = HasTables names ticket.site ticket.tables

-- a lease of that site for that want, made there; its moment is not before the one handed in, and it has a stream if its
-- connection is reused
pub record IsLeaseFor {S : Type 0} (names : CacheNames) (site : ℕ) (want : Want) (now : ℕ) (lease : Leasing S) : Type 0 where
  pub place : lease.site ≡ site
  pub made : IsMadeBy names lease
  pub wanted : lease.start.want ≡ want
  pub later : now ≤ lease.start.moment
  pub has_stream : is_some lease.stream ≡ lease.start.reused

-- a ticket of that site for that want, made there, of a moment that is not before the one handed in
pub record IsTicketFor (names : CacheNames) (site : ℕ) (want : Want) (now : ℕ) (ticket : Ticketed) : Type 0 where
  pub place : ticket.site ≡ site
  pub made : IsTicketOf names ticket
  pub wanted : ticket.wait.want ≡ want
  pub later : now ≤ ticket.wait.moment

-- what an acquire gives is of the site, the want and the moment that were handed in
abbrev pub IsAcquiredFor : {S : Type 0} → CacheNames → ℕ → Want → ℕ → Acquired S → Type 0
IsAcquiredFor names site want now (Lease lease) = IsLeaseFor names site want now lease
IsAcquiredFor names site want now (Wait ticket) = IsTicketFor names site want now ticket

-- the same of one try
abbrev pub IsGotFor : {S : Type 0} → CacheNames → ℕ → Want → ℕ → Got S → Type 0
IsGotFor names site want now (GotLease lease) = IsLeaseFor names site want now lease
IsGotFor names site want now (GotWait ticket) = IsTicketFor names site want now ticket
IsGotFor names site want now (NoRoom booking) = booking ≡ record { site = site; want = want }
IsGotFor names site want now (Again booking) = booking ≡ record { site = site; want = want }

-- what a claim gives is its ticket's: of its site and its want, made there
pub record IsClaimedFor {S : Type 0} (names : CacheNames) (ticket : Ticketed) (lease : Leasing S) : Type 0 where
  pub place : lease.site ≡ ticket.site
  pub made : IsMadeBy names lease
  pub wanted : lease.start.want ≡ ticket.wait.want
  pub has_stream : is_some lease.stream ≡ lease.start.reused

-- why an acquire may be refused at a site that is there
abbrev pub IsAgainstAcquire : Refusal → Type 0
IsAgainstAcquire TransferBusy = Unit {0}
IsAgainstAcquire Exhausted = Unit {0}
IsAgainstAcquire Memory = Unit {0}
IsAgainstAcquire _ = ⊥

-- why a new limit may be refused at a site that is there: it is too great, or more connections than that are held
abbrev pub IsAgainstLimit : ℕ → Refusal → Type 0
IsAgainstLimit limit BadLimit = greatest_limit < limit
IsAgainstLimit limit (Busy held) = kept_limit limit < held
IsAgainstLimit limit Memory = Unit {0}
IsAgainstLimit limit _ = ⊥
