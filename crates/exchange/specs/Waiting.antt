-- What a pending transfer left behind, to be polled again.
use Rattle.std.specs.Prelude.{◌≡◌, ℕ, Bool, true, false, ◌⊎◌, Option, IsSomeAnd}
use Rattle.futures.specs.Task.{Hears, IsArmed, Wakes, Keeps}
use Rattle.futures.specs.declared.task.context.Context.{Context}
use Rattle.futures.specs.declared.task.waker.Waker.{Waker}
use Rattle.exchange.specs.declared.state.Stage.{Stage}
use Rattle.exchange.specs.declared.state.Stage.TheVariants.{Grant, Dialling, Sending, Reading, Turn}
use Rattle.exchange.specs.declared.state.State.{State}
use Rattle.exchange.specs.declared.state.State.TheVariants as at
use Rattle.exchange.specs.declared.state.Step.{Step}
use Rattle.exchange.specs.declared.state.Step.TheVariants.{Goes, Waits}
use Rattle.bundle.specs.Lease.{Leasing}
use Rattle.exchange.specs.Transfers.{TransferShown}
use Rattle.exchange.specs.Stepping.{has_lease}

-- it has asked to be polled again
pub record HasYielded (old new : Context) : Type 0 where
  pub woken : new.is_woken ≡ true
  pub armed : IsArmed new
  pub kept : Keeps old new

-- it has registered with that source: the waker that it left wakes this task, or none could be made
pub record IsRegistered (old new : Context) (waker : Option Waker) (source : ℕ) : Type 0 where
  pub heard : Hears new source
  pub left : (new.lacks_waker ≡ true) ⊎ IsSomeAnd waker (λ waker. Wakes waker old)
  pub armed : IsArmed new
  pub kept : Keeps old new

-- of the name of the source of the lease's wire this holds
abbrev pub OnSource : {W : Type 0} → (W → ℕ) → Leasing W → (ℕ → Type 0) → Type 0
OnSource name lease P = IsSomeAnd lease.stream (λ wire. P (name wire))

-- what a pending transfer left where it stands: it asked to be polled again, if it took all steps of its poll or waits
-- for a grant; else it is registered with its dial or with its wire
abbrev pub LeavesAt : {W : Type 0} → (W → ℕ) → ℕ → Context → Context → Option Waker → Bool → State W → Type 0
LeavesAt name dial old new waker true (at.Finished done) = ⊥
LeavesAt name dial old new waker true _ = HasYielded old new
LeavesAt name dial old new waker false (at.Waiting ticket) = HasYielded old new
LeavesAt name dial old new waker false (at.Dialling lease) = IsRegistered old new waker dial
LeavesAt name dial old new waker false (at.Sending lease sent) = OnSource name lease (IsRegistered old new waker)
LeavesAt name dial old new waker false (at.Reading lease) = OnSource name lease (IsRegistered old new waker)
LeavesAt name dial old new waker false _ = ⊥

-- what it waits for
abbrev pub stage_at : {W : Type 0} → Bool → State W → Stage
stage_at false (at.Waiting ticket) = Grant
stage_at false (at.Dialling lease) = Dialling
stage_at false (at.Sending lease sent) = Sending
stage_at false (at.Reading lease) = Reading
stage_at _ _ = Turn

-- where a step stands
abbrev pub AtStep : {W : Type 0} → Step W → (State W → Type 0) → Type 0
AtStep (Goes state) P = P state
AtStep (Waits state) P = P state

-- what a step left that has to wait; one that goes on has left its context alone
abbrev pub StepLeaves : {W : Type 0} → (W → ℕ) → ℕ → Context → Context → Option Waker → Step W → Type 0
StepLeaves name dial old new waker (Goes state) = new ≡ old
StepLeaves name dial old new waker (Waits state) = LeavesAt name dial old new waker false state

-- it waits for a connection
abbrev pub is_waiting : {W : Type 0} → State W → Bool
is_waiting (at.Waiting ticket) = true
is_waiting _ = false

abbrev pub HasTicket : {W : Type 0} → TransferShown W → Type 0
HasTicket transfer = IsSomeAnd transfer.state (λ state. is_waiting state ≡ true)

abbrev pub HasLease : {W : Type 0} → TransferShown W → Type 0
HasLease transfer = IsSomeAnd transfer.state (λ state. has_lease state ≡ true)

-- it waits for its dial or its wire, and has not asked for another turn
abbrev pub IsAtWire : {W : Type 0} → TransferShown W → Type 0
IsAtWire transfer = (transfer.has_yielded ≡ false) × HasLease transfer
