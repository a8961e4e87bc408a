-- What calls answer, by the case of the answer.
use Rattle.std.specs.Prelude.{◌≡◌, ℕ, Bool, true, false, Result, Ok}
use Rattle.conn_log.specs.declared.entry.Want.{Want}
use Rattle.conn_log.specs.declared.entry.Cause.TheVariants.{TotalRoom}
use Rattle.persistence.specs.declared.facts.Facts.{Facts}
use Rattle.budget.specs.declared.permits.Try.{Try}
use Rattle.budget.specs.declared.permits.Try.TheVariants.{Got as TryGot, Full as TryFull, Contended as TryContended}
use Rattle.bundle.specs.declared.answers.Got.{Got}
use Rattle.bundle.specs.declared.answers.Got.TheVariants.{Lease, Wait, NoRoom, Again}
use Rattle.bundle.specs.declared.answers.Claimed.{Claimed}
use Rattle.bundle.specs.declared.answers.Claimed.TheVariants.{Lease as Granted, Still}
use Rattle.bundle.specs.declared.answers.Back.{Back}
use Rattle.bundle.specs.declared.answers.Back.TheVariants.{Spent, NoKeep, Again as KeepAgain, Strange}
use Rattle.bundle.specs.declared.answers.Served.{Served}
use Rattle.bundle.specs.declared.answers.Served.TheVariants.{Given, Full, Contended}
use Rattle.bundle.specs.declared.answers.Changed.{Changed}
use Rattle.bundle.specs.declared.answers.Changed.TheVariants.{Done, Again as ChangeAgain}
use Rattle.host_state.specs.Calls.{Reply, Returning, acquired, given_back, is_freed, starts, waits_on, no_room, again, spent, not_kept, keep_again}
use Rattle.bundle.specs.Lease.{Leasing, Ticketed, Booked, HostShown}

-- what an acquire gives, as its reply says: a lease of its start, a ticket of its wait, or its booking
abbrev pub IsGot : {S : Type 0} → ℕ → Want → Reply → Got S → Type 0
IsGot host want (starts start) (Lease lease) = (lease.site ≡ host) × (lease.start ≡ start)
IsGot host want (waits_on wait) (Wait ticket) = ticket ≡ record { site = host; wait = wait; tables = ticket.tables }
IsGot host want no_room (NoRoom booking) = booking ≡ record { site = host; want = want }
IsGot host want again (Again booking) = booking ≡ record { site = host; want = want }
IsGot host want reply got = ⊥

-- what an acquire gives is of this host and for that want; a lease and a ticket are of that moment
abbrev pub IsFor : {S : Type 0} → ℕ → Want → ℕ → Got S → Type 0
IsFor host want moment (Lease lease) = (lease.site ≡ host) × (lease.start.want ≡ want) × (lease.start.moment ≡ moment)
IsFor host want moment (Wait ticket) = ticket ≡ record { site = host; wait = record { want = want; moment = moment }; tables = ticket.tables }
IsFor host want moment (NoRoom booking) = booking ≡ record { site = host; want = want }
IsFor host want moment (Again booking) = booking ≡ record { site = host; want = want }

-- an acquire, or another try of one, where the budget answered so
pub record Acquires {S : Type 0} (is_last : Bool) (told : Try) (old new : HostShown S) (want : Want) (now : ℕ) (got : Got S) : Type 0 where
  pub log : new.log ≡ (acquired is_last told old.settings old.log want now).log
  pub got_is : IsGot old.host want (acquired is_last told old.settings old.log want now).reply got

-- what a give back answers, and the log that it leaves
abbrev pub IsBack : {S : Type 0} → HostShown S → HostShown S → Leasing S → Returning → Back S → Type 0
IsBack old new lease (spent log) (Spent freed) = (new.log ≡ log) × (freed ≡ is_freed old.log log)
IsBack old new lease not_kept (NoKeep same) = (same ≡ lease) × (new ≡ old)
IsBack old new lease keep_again (KeepAgain same) = (same ≡ lease) × (new ≡ old)
IsBack old new lease returning back = ⊥

-- a lease of what the transfer holds is given back, where the budget answered so
abbrev pub GivesBack : {S : Type 0} → Bool → Try → HostShown S → HostShown S → Leasing S → Facts → ℕ → Back S → Type 0
GivesBack close_if_full told old new lease facts now back = IsBack old new lease (given_back close_if_full told old.settings old.log lease.start.number facts now) back

-- what a give back may answer: what comes back is the lease that was given, and for want of room among those kept it
-- does so only where the call may not close; it is never a stranger
abbrev pub IsBackAs : {S : Type 0} → Bool → Leasing S → Back S → Type 0
IsBackAs close_if_full lease (Spent freed) = Unit {0}
IsBackAs close_if_full lease (NoKeep same) = (close_if_full ≡ false) × (same ≡ lease)
IsBackAs close_if_full lease (KeepAgain same) = same ≡ lease
IsBackAs close_if_full lease (Strange stray) = ⊥

-- where a lease comes back
abbrev pub IfBack : {S : Type 0} → Back S → (Leasing S → Type 0) → Type 0
IfBack (Spent freed) P = Unit {0}
IfBack (NoKeep same) P = P same
IfBack (KeepAgain same) P = P same
IfBack (Strange stray) P = P stray

-- where a lease is spent
abbrev pub OnSpent : {S : Type 0} → Back S → Type 0 → Type 0
OnSpent (Spent freed) P = P
OnSpent _ P = Unit {0}

-- where the bundle is as it was
abbrev pub UnlessSpent : {S : Type 0} → Back S → Type 0 → Type 0
UnlessSpent (Spent freed) P = Unit {0}
UnlessSpent _ P = P

-- a turn answers what the budget answered; full is the total
abbrev pub answer_of : Try → Served
answer_of TryGot = Given
answer_of TryFull = Full TotalRoom
answer_of TryContended = Contended

-- where a limit is changed, and where the budget has to be asked again
abbrev pub IfChanged : {E : Type 0} → Result Changed E → (Bool → Type 0) → Type 0
IfChanged (Ok (Done freed)) P = P freed
IfChanged _ P = Unit {0}

abbrev pub OnChangeAgain : {E : Type 0} → Result Changed E → Type 0 → Type 0
OnChangeAgain (Ok ChangeAgain) P = P
OnChangeAgain _ P = Unit {0}

-- where an acquire gives a lease, a ticket, or a booking
abbrev pub GivesLease : {S : Type 0} → Got S → (Leasing S → Type 0) → Type 0
GivesLease (Lease lease) P = P lease
GivesLease _ P = Unit {0}

abbrev pub GivesTicket : {S : Type 0} → Got S → (Ticketed → Type 0) → Type 0
GivesTicket (Wait ticket) P = P ticket
GivesTicket _ P = Unit {0}

abbrev pub GivesBooking : {S : Type 0} → Got S → (Booked → Type 0) → Type 0
GivesBooking (NoRoom booking) P = P booking
GivesBooking (Again booking) P = P booking
GivesBooking _ P = Unit {0}

abbrev pub UnlessBooking : {S : Type 0} → Got S → Type 0 → Type 0
UnlessBooking (NoRoom booking) P = Unit {0}
UnlessBooking (Again booking) P = Unit {0}
UnlessBooking _ P = P

-- the acquire is halfway
abbrev pub is_halfway : {S : Type 0} → Got S → Bool
is_halfway (Lease lease) = false
is_halfway (Wait ticket) = false
is_halfway (NoRoom booking) = true
is_halfway (Again booking) = true

abbrev pub IfGot : {S E : Type 0} → Result (Got S) E → (Got S → Type 0) → Type 0
IfGot (Ok got) P = P got
IfGot _ P = Unit {0}

-- where a claim gives a lease, or the ticket
abbrev pub IsClaimed : {S : Type 0} → Claimed S → (Leasing S → Type 0) → Type 0
IsClaimed (Granted lease) P = P lease
IsClaimed (Still ticket) P = Unit {0}

abbrev pub IsStill : {S : Type 0} → Claimed S → (Ticketed → Type 0) → Type 0
IsStill (Granted lease) P = Unit {0}
IsStill (Still ticket) P = P ticket

abbrev pub IfClaimed : {S E : Type 0} → Result (Claimed S) E → (Leasing S → Type 0) → Type 0
IfClaimed (Ok claimed) P = IsClaimed claimed P
IfClaimed _ P = Unit {0}

abbrev pub IfStill : {S E : Type 0} → Result (Claimed S) E → (Ticketed → Type 0) → Type 0
IfStill (Ok claimed) P = IsStill claimed P
IfStill _ P = Unit {0}
