-- What the steps of a host's calls keep, of its state, its seats, its grants and its bookings.
use Rattle.std.specs.Prelude.{◌≡◌, ℕ, ◌<◌, ◌≤◌, false, List, [], None, is_some}
use Rattle.conn_log.specs.declared.entry.Want.{Want}
use Rattle.conn_log.specs.declared.entry.Entry.{Entry}
use Rattle.conn_log.specs.Connections.{last_moment, held_number, open_connections}
use Rattle.conn_log.specs.Waiting.{waiting}
use Rattle.host_state.specs.Steps.{is_exhausted}
use Rattle.host_state.specs.State.{HostState, IsSameHost, KeepsOpen, KeepsOpenBut, OpensOnly}
use Rattle.host_state.specs.Asks.{asks_to_open}
use Rattle.bundle.specs.declared.answers.Got.{Got}
use Rattle.bundle.specs.declared.answers.Got.TheVariants.{Lease, Wait, NoRoom, Again}
use Rattle.bundle.specs.declared.grant.Grant.{Grant}
use Rattle.bundle.specs.Grants.{grant_starts, HasSpare}
use Rattle.bundle.specs.Lease.{Leasing, HasItsStream}
use Rattle.bundle.specs.Seats.{Tables, SeatsShown, IsSeated, AreUnclaimed, KeepsGranted, OnlyStarts}

-- the seats stand for those who hold a connection, those without a lease are the grants, and there is room for as many
-- grants as there may be
pub record IsInside {S : Type 0} (state : HostState S) (seats : SeatsShown) (grants : List (Grant S)) (len capacity : ℕ) : Type 0 where
  pub seated : IsSeated state.log seats
  pub unclaimed : AreUnclaimed (grant_starts grants) seats
  pub spare : HasSpare state.log state.booked len capacity

-- transfers that wait may have started, nobody ended, and the bookings and the host stay
pub record OnlyGrants {S : Type 0} (old new : HostState S) (before after : SeatsShown) : Type 0 where
  pub starts : OnlyStarts before after
  pub booked : new.booked ≡ old.booked
  pub same : IsSameHost old new

-- the seats stand for those who hold a connection after the step; those without a lease are the same
pub record SeatsLeases (log : List Entry) (before after : SeatsShown) : Type 0 where
  pub seated : IsSeated log after
  pub granted : KeepsGranted before after

-- a transfer may start or wait: its acquire is booked, and it holds nothing
pub record MayStart {S : Type 0} (state : HostState S) (want : Want) (moment : ℕ) : Type 0 where
  pub booked : 0 < state.booked
  pub later : last_moment state.log ≤ moment
  pub free : held_number state.log want.transfer ≡ None

-- a transfer starts at once, on a connection that is idle: no acquire is halfway, and the budget would not be asked
pub record MayLeaseAtOnce {S : Type 0} (state : HostState S) (bookings : List ℕ) (want : Want) (moment : ℕ) : Type 0 where
  pub nobody : bookings ≡ []
  pub free : held_number state.log want.transfer ≡ None
  pub once : waiting state.log ≡ []
  pub number : is_exhausted state.settings state.log 0 ≡ false
  pub not_due : asks_to_open state.settings state.log want moment ≡ false

-- a lease of a start: if its connection was idle it has the stream, and each other connection keeps its own
pub record IsLeased {S : Type 0} (old new : HostState S) (tables : Tables) (lease : Leasing S) : Type 0 where
  pub made_here : lease.tables ≡ tables
  pub has_stream : is_some lease.stream ≡ lease.start.reused
  pub stream : HasItsStream old.streams lease
  pub others : KeepsOpenBut lease.start.number old new

-- a start, a wait, or an acquire that is halfway, by what it gives
abbrev pub GivesAt : {S : Type 0} → HostState S → HostState S → Tables → Got S → Type 0
GivesAt old new tables (Lease lease) = IsLeased old new tables lease
GivesAt old new tables (Wait ticket) = (ticket.tables ≡ tables) × KeepsOpen old new
GivesAt old new tables (NoRoom booking) = KeepsOpen old new
GivesAt old new tables (Again booking) = KeepsOpen old new

-- a lease of a connection that was opened for it, which is the only new one
pub record IsOpened {S : Type 0} (old new : HostState S) (tables : Tables) (lease : Leasing S) : Type 0 where
  pub made_here : lease.tables ≡ tables
  pub no_stream : lease.stream ≡ None
  pub not_reused : lease.start.reused ≡ false
  pub opens : OpensOnly lease.start.number old.log new.log

-- the same where no idle connection is leased
abbrev pub GivesAnewAt : {S : Type 0} → HostState S → HostState S → Tables → Got S → Type 0
GivesAnewAt old new tables (Lease lease) = IsOpened old new tables lease
GivesAnewAt old new tables (Wait ticket) = (ticket.tables ≡ tables) × (open_connections new.log ≡ open_connections old.log)
GivesAnewAt old new tables (NoRoom booking) = new ≡ old
GivesAnewAt old new tables (Again booking) = new ≡ old
