-- What is true of a transfer between two calls, and what a call leaves.
use Rattle.std.specs.Prelude.{◌≡◌, ◌≢◌, ℕ, Bool, false, List, Option, Some, None, IsSomeAnd}
use Rattle.futures.specs.declared.task.Poll.{Poll}
use Rattle.futures.specs.declared.task.Poll.TheVariants.{Ready, Pending}
use Rattle.futures.specs.declared.task.context.Context.{Context}
use Rattle.futures.specs.declared.task.waker.Waker.{Waker}
use Rattle.cache_trait.specs.CacheCalls.{CacheCall, DropsBy, WithdrawsBy}
use Rattle.exchange.specs.declared.job.Prepared.{Prepared}
use Rattle.exchange.specs.declared.done.Done.{Done}
use Rattle.exchange.specs.declared.done.Done.TheVariants.{Bad}
use Rattle.exchange.specs.declared.done.Fault.TheVariants.{Cancelled}
use Rattle.exchange.specs.declared.state.State.{State}
use Rattle.exchange.specs.declared.state.State.TheVariants.{Asking, Waiting, Dialling, Sending, Reading, Finished}
use Rattle.exchange.specs.Transfers.{TransferShown}
use Rattle.exchange.specs.Answers.{IsSameJob}
use Rattle.exchange.specs.Stepping.{PollsFew}
use Rattle.exchange.specs.Dialling.{DialShown, KeepsCounts}
use Rattle.exchange.specs.Worlds.{World}
use Rattle.exchange.specs.Since.{Outset}
use Rattle.exchange.specs.Standing.{StandsAt, StandsFrom}
use Rattle.exchange.specs.Steps.{DialFails, Opens, DialsAlone, BeginsNone}
use Rattle.exchange.specs.Waiting.{LeavesAt, OnSource}

-- all that was done led to where it stands, and since that outset nothing else was done
abbrev pub Stands : {C W : Type 0} → (C → C → CacheCall W → Type 0) → World W → Prepared → Outset C W → C → Option (State W) → Type 0
Stands did world p first cache state = IsSomeAnd state (StandsFrom did world p first cache)

-- whatever was done before, it goes on from where it stood
abbrev pub Continues : {C W : Type 0} → (C → C → CacheCall W → Type 0) → World W → Prepared → Prepared → C → C → Option (State W) → Option (State W) → Type 0
Continues {C} {W} did world old new before after state next = (first : Outset C W) → Stands did world old first before state → Stands did world new first after next

-- what was done for it led to where it stands; what others did meanwhile is left aside
abbrev pub IsToldAt : {W : Type 0} → World W → Prepared → State W → Type 0
IsToldAt {W} world p state = (calls : List (CacheCall W)) × StandsAt world p state calls

abbrev pub IsTold : {W : Type 0} → World W → Prepared → Option (State W) → Type 0
IsTold world p state = IsSomeAnd state (IsToldAt world p)

abbrev pub IsFinished : {W : Type 0} → Option (State W) → Type 0
IsFinished state = (done : Done) × (state ≡ Some (Finished done))

-- what a pending transfer left
abbrev pub Leaves : {W : Type 0} → (W → ℕ) → ℕ → Context → Context → Option Waker → Bool → Option (State W) → Type 0
Leaves name dial old new waker yielded state = IsSomeAnd state (LeavesAt name dial old new waker yielded)

-- a dial has failed if that is what came of the transfer since, and only then
abbrev pub DialFailsSince : {W : Type 0} → State W → ℕ → ℕ → State W → Type 0
DialFailsSince (Finished done) old new next = new ≡ old
DialFailsSince _ old new next = DialFails old new next

-- a step's work at the dial, from where the transfer stood: a dial has failed if that is what came of it; it opens no
-- more connections than it may; what it begins is its own; and no turn failed
pub record DialsAt {W : Type 0} (p q : Prepared) (state : State W) (old new : DialShown) (next : State W) : Type 0 where
  pub dialled : DialFailsSince state old.failures new.failures next
  pub opens : Opens p q state old.opened new.opened next
  pub begun : DialsAlone old.begun new.begun p.want.transfer state next
  pub turns : new.turn_failures ≡ old.turn_failures

-- a dial has failed, from where the transfer stood
abbrev pub DialFailed : {W : Type 0} → Option (State W) → Option (State W) → ℕ → ℕ → Type 0
DialFailed state next old new = IsSomeAnd state (λ first. IsSomeAnd next (DialFailsSince first old new))

-- it opens no more connections than it may
abbrev pub OpensFew : {W : Type 0} → Prepared → Prepared → Option (State W) → Option (State W) → ℕ → ℕ → Type 0
OpensFew p q state next old new = IsSomeAnd state (λ first. IsSomeAnd next (Opens p q first old new))

-- what it begins at the dial is its own
abbrev pub BeginsItsOwn : {W : Type 0} → (ℕ → Type 0) → (ℕ → Type 0) → ℕ → Option (State W) → Option (State W) → Type 0
BeginsItsOwn old new transfer state next = IsSomeAnd state (λ first. IsSomeAnd next (DialsAlone old new transfer first))

-- a poll's work at the dial
pub record DialsItsOwn {W : Type 0} (p q : Prepared) (state next : Option (State W)) (old new : DialShown) : Type 0 where
  pub dialled : DialFailed state next old.failures new.failures
  pub opens : OpensFew p q state next old.opened new.opened
  pub begun : BeginsItsOwn old.begun new.begun p.want.transfer state next
  pub turns : new.turn_failures ≡ old.turn_failures

-- once it is given up, nothing is begun for it, if nothing was but while it dialled; for no other anything was begun,
-- and what was begun for others still is; nothing was counted
pub record GivesUpDial {W : Type 0} (old new : DialShown) (transfer : ℕ) (state : Option (State W)) : Type 0 where
  pub counts : KeepsCounts old new
  pub others : (other : ℕ) → new.begun other → old.begun other
  pub kept : (other : ℕ) → other ≢ transfer → old.begun other → new.begun other
  pub own : IsSomeAnd state (BeginsNone old.begun transfer) → new.begun transfer → ⊥

-- what a cancel does at that moment: a wait ends, a lease is abandoned, and nothing happens if there is neither
abbrev pub CancelsAt : {C W : Type 0} → (C → C → CacheCall W → Type 0) → C → C → ℕ → State W → Type 0
CancelsAt did before after now Asking = after ≡ before
CancelsAt did before after now (Waiting ticket) = WithdrawsBy (did before after) ticket now
CancelsAt did before after now (Dialling lease) = DropsBy (did before after) lease now
CancelsAt did before after now (Sending lease sent) = DropsBy (did before after) lease now
CancelsAt did before after now (Reading lease) = DropsBy (did before after) lease now
CancelsAt did before after now (Finished done) = after ≡ before

abbrev pub Cancels : {C W : Type 0} → (C → C → CacheCall W → Type 0) → C → C → ℕ → Option (State W) → Type 0
Cancels did before after now state = IsSomeAnd state (CancelsAt did before after now)

-- a cancel calls the dial only for a transfer that dials
abbrev pub LeavesDialAt : {D W : Type 0} → D → D → State W → Type 0
LeavesDialAt old new (Dialling lease) = Unit {0}
LeavesDialAt old new _ = new ≡ old

abbrev pub LeavesDial : {D W : Type 0} → D → D → Option (State W) → Type 0
LeavesDial old new state = IsSomeAnd state (LeavesDialAt old new)

-- how it ended, or that it was cancelled
abbrev pub ClosesAt : {W : Type 0} → Done → State W → Type 0
ClosesAt answered (Finished done) = answered ≡ done
ClosesAt answered _ = answered ≡ Bad Cancelled

abbrev pub Closes : {W : Type 0} → Done → Option (State W) → Type 0
Closes answered state = IsSomeAnd state (ClosesAt answered)

-- it has not ended
abbrev pub IsGoing : {W : Type 0} → State W → Type 0
IsGoing (Finished done) = ⊥
IsGoing _ = Unit {0}

-- what has ended stays so
abbrev pub StaysEnded : {W : Type 0} → State W → State W → Type 0
StaysEnded (Finished done) new = new ≡ Finished done
StaysEnded _ new = Unit {0}

-- how a step ends: it goes on, having left its context alone; it waits; or the transfer has ended
abbrev pub StepEnds : {W : Type 0} → (W → ℕ) → ℕ → Context → Context → Option Waker → Option (State W) → Option (Poll (Unit {0})) → Type 0
StepEnds name dial old new waker state None = (new ≡ old) × IsSomeAnd state IsGoing
StepEnds name dial old new waker state (Some Pending) = Leaves name dial old new waker false state
StepEnds name dial old new waker state (Some (Ready it)) = (new ≡ old) × IsFinished state

-- what it waits for, by the name of the source
abbrev pub NeedsAt : {W : Type 0} → (W → ℕ) → ℕ → ℕ → Bool → State W → Type 0
NeedsAt name dial source false (Dialling lease) = source ≡ dial
NeedsAt name dial source false (Sending lease sent) = OnSource name lease (λ its. source ≡ its)
NeedsAt name dial source false (Reading lease) = OnSource name lease (λ its. source ≡ its)
NeedsAt name dial source _ _ = ⊥

abbrev pub Needs : {W : Type 0} → (W → ℕ) → ℕ → ℕ → Bool → Option (State W) → Type 0
Needs name dial source yielded state = IsSomeAnd state (NeedsAt name dial source yielded)

-- a poll of a transfer, before and after it: it goes on with the same job, whatever was done before; what has ended stays
-- so; and at the dial it does its own
pub record IsPolled {C W : Type 0} (did : C → C → CacheCall W → Type 0) (world : World W) (before after : C) (old new : DialShown) (transfer next : TransferShown W) : Type 0 where
  pub same : IsSameJob transfer.parts next.parts
  pub story : Continues did world transfer.parts next.parts before after transfer.state next.state
  pub steps : PollsFew did world before after next.has_yielded next.has_spent transfer.state next.state
  pub over : IsFinished transfer.state → next.state ≡ transfer.state
  pub dial : DialsItsOwn transfer.parts next.parts transfer.state next.state old new
