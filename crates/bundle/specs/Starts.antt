-- What an acquire, another try of one, and a claim give.
use Rattle.std.specs.Prelude.{◌≡◌, ℕ, Bool, List, is_some}
use Rattle.budget.specs.declared.permits.Try.{Try}
use Rattle.conn_log.specs.declared.entry.Want.{Want}
use Rattle.host_state.specs.Steps.{moment_at}
use Rattle.host_state.specs.Asks.{open_asks}
use Rattle.bundle.specs.declared.answers.Got.{Got}
use Rattle.bundle.specs.declared.answers.Got.TheVariants.{Lease, Wait, NoRoom, Again}
use Rattle.bundle.specs.Lease.{HostShown, Leasing, Ticketed, WasGranted, HasItsStream, KeepsStreams, KeepsOthers, KeepsAll, GetsLease, GetsTicket}
use Rattle.bundle.specs.Replies.{Acquires, IsFor}

-- an acquire, or another try of one, gives what the budget's answer says, for that want and of that moment; the budget
-- was asked as often as the log says
pub record AnswersAcquire {S : Type 0} (Opening : Try → Type 0) (Asked : ℕ → ℕ → Type 0) (is_last : Bool) (old new : HostShown S) (want : Want) (now : ℕ) (got : Got S) : Type 0 where
  pub told : (told : Try) × Opening told × Acquires is_last told old new want now got
  pub is_for : IsFor old.host want (moment_at old.log now) got
  pub asked : Asked (open_asks old.settings old.log want now) 0

-- it gives a lease that was made here; a reused connection comes with its stream, and every other one keeps its own
pub record StartsLease {S : Type 0} (old new : HostShown S) (want : Want) (booked : List ℕ) (lease : Leasing S) : Type 0 where
  pub made_here : lease.tables ≡ old.tables
  pub has_stream : is_some lease.stream ≡ lease.start.reused
  pub stream : HasItsStream old.streams lease
  pub streams : KeepsOthers lease.start.number old new
  pub gets : GetsLease old new want.transfer lease.start.number
  pub books : new.booked ≡ booked

-- or a ticket that was made here
pub record BeginsWait {S : Type 0} (old new : HostShown S) (want : Want) (booked : List ℕ) (ticket : Ticketed) : Type 0 where
  pub made_here : ticket.tables ≡ old.tables
  pub streams : KeepsStreams old new
  pub gets : GetsTicket old new want
  pub books : new.booked ≡ booked

-- or it is halfway
pub record LeavesHalfway {S : Type 0} (old new : HostShown S) (booked : List ℕ) : Type 0 where
  pub streams : KeepsStreams old new
  pub keeps : KeepsAll old new
  pub books : new.booked ≡ booked

-- by what it gives, with those who are booked afterwards, if it is done and if it is halfway
abbrev pub AcquiresAt : {S : Type 0} → HostShown S → HostShown S → Want → List ℕ → List ℕ → Got S → Type 0
AcquiresAt old new want done halfway (Lease lease) = StartsLease old new want done lease
AcquiresAt old new want done halfway (Wait ticket) = BeginsWait old new want done ticket
AcquiresAt old new want done halfway (NoRoom booking) = LeavesHalfway old new halfway
AcquiresAt old new want done halfway (Again booking) = LeavesHalfway old new halfway

-- a claim gives the lease of what was granted for that want; the lease was made here
pub record ClaimsLease {S : Type 0} (old new : HostShown S) (want : Want) (lease : Leasing S) : Type 0 where
  pub granted : WasGranted old want.transfer lease
  pub wanted : lease.start.want ≡ want
  pub made_here : lease.tables ≡ old.tables
  pub has_stream : is_some lease.stream ≡ lease.start.reused
  pub stream : HasItsStream old.streams lease
  pub streams : KeepsOthers lease.start.number old new
  pub gets : GetsLease old new want.transfer lease.start.number
