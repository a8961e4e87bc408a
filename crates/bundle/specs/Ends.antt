-- How a lease or a ticket ends.
use Rattle.std.specs.Prelude.{◌≡◌, ℕ, Bool, true}
use Rattle.persistence.specs.declared.facts.Facts.{Facts}
use Rattle.budget.specs.declared.permits.Try.{Try}
use Rattle.host_state.specs.Calls.{after_abandon, after_withdraw, is_freed}
use Rattle.host_state.specs.Asks.{keep_asks}
use Rattle.bundle.specs.declared.answers.Back.{Back}
use Rattle.bundle.specs.Lease.{HostShown, Leasing, Ticketed, is_held_lease, is_valid_ticket, KeepsItsStream, KeepsStreams, KeepsOthers, Spends}
use Rattle.bundle.specs.Replies.{GivesBack, IsBackAs}

-- the host knew the lease, and closed its connection; every other connection keeps its stream
pub record ClosesLease {S : Type 0} (old new : HostShown S) (lease : Leasing S) (now : ℕ) : Type 0 where
  pub known : is_held_lease old lease ≡ true
  pub log : new.log ≡ after_abandon old.settings old.log lease.start.number now
  pub streams : KeepsOthers lease.start.number old new
  pub spends : Spends old new lease.start.want.transfer

-- a give back answers as the budget did, if it was asked to keep the connection: the log and the answer follow
pub record AnswersBack {S : Type 0} (Keeping : Try → Type 0) (Asked : ℕ → ℕ → Type 0) (close_if_full : Bool) (old new : HostShown S) (lease : Leasing S) (facts : Facts) (now : ℕ) (back : Back S) : Type 0 where
  pub known : is_held_lease old lease ≡ true
  pub told : (told : Try) × Keeping told × GivesBack close_if_full told old new lease facts now back
  pub back_as : IsBackAs close_if_full lease back
  pub asked : Asked 0 (keep_asks old.log lease.start facts)

-- the lease is spent: if its connection is still open, the host has the lease's stream
pub record ReturnsLease {S : Type 0} (old new : HostShown S) (lease : Leasing S) : Type 0 where
  pub stream : KeepsItsStream new lease
  pub streams : KeepsOthers lease.start.number old new
  pub spends : Spends old new lease.start.want.transfer

-- the ticket was valid, and its transfer waits no more, nor has it a connection to claim
pub record EndsWait {S : Type 0} (old new : HostShown S) (ticket : Ticketed) (now : ℕ) (freed : Bool) : Type 0 where
  pub valid : is_valid_ticket old ticket.wait.want ≡ true
  pub log : new.log ≡ after_withdraw old.settings old.log ticket.wait.want.transfer now
  pub freed_is : freed ≡ is_freed old.log new.log
  pub streams : KeepsStreams old new
  pub spends : Spends old new ticket.wait.want.transfer
