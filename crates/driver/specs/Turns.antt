-- The failed turns of all dials of a run together.
use Rattle.std.specs.Prelude.{◌≡◌, ℕ, ◌<◌, ◌≤◌, ◌⊎◌, List, length, Option, Some, None, Result, Ok, Err}
use Rattle.std.specs.List.{sum_by}
use Rattle.driver.specs.declared.fault.DriverFault.{DriverFault}
use Rattle.driver.specs.declared.fault.DriverFault.TheVariants as fault
use Rattle.driver.specs.declared.quit.Quit.{Quit}
use Rattle.driver.specs.declared.quit.Quit.TheVariants.{Poll}
use Rattle.driver.specs.Workers.{WorkerShown}

-- one if it gave up
abbrev pub one_if_quit : Option Quit → ℕ
one_if_quit None = 0
one_if_quit (Some quit) = 1

-- one if it gave up since a turn of its dial failed
abbrev pub one_if_polled : Option Quit → ℕ
one_if_polled (Some Poll) = 1
one_if_polled _ = 0

abbrev pub quits : WorkerShown → ℕ
quits worker = one_if_quit worker.quit

abbrev pub polls : WorkerShown → ℕ
polls worker = one_if_polled worker.quit

abbrev pub failed_of : WorkerShown → ℕ
failed_of worker = worker.failed

-- a sum of counts rises, or one of these counts is at the greatest number that it can say
abbrev pub RisesTogether : ℕ → ℕ → Type 0
RisesTogether old new = (old < new) ⊎ (18446744073709551615 ≤ new)

-- of the dials of all workers together as many turns have failed as before if none gave up, and more if a failed turn made
-- one give up
pub record TurnedTogether (before : ℕ) (workers : List WorkerShown) : Type 0 where
  pub still : sum_by quits workers ≡ 0 → sum_by failed_of workers ≡ before
  pub risen : 0 < sum_by polls workers → RisesTogether before (sum_by failed_of workers)

-- a run has the fault Poll only if a turn failed in it
abbrev pub FaultTurns : DriverFault → ℕ → ℕ → Type 0
FaultTurns fault.Poll old new = RisesTogether old new
FaultTurns _ old new = Unit {0}

-- a run has results only if no turn failed in it
abbrev pub TurnsSo : {X Y : Type 0} → Result X (DriverFault × Y) → ℕ → ℕ → Type 0
TurnsSo (Ok report) old new = new ≡ old
TurnsSo (Err refused) old new = FaultTurns refused.0 old new

-- these dials came to a state in which no more turns had failed, if the run has results, and more, if it has the fault Poll
pub record DialsTurned {D X Y : Type 0} (failures : D → ℕ) (dials : List D) (result : Result X (DriverFault × Y)) : Type 0 where
  pub later : List D
  pub number : length later ≡ length dials
  pub turns : TurnsSo result (sum_by failures dials) (sum_by failures later)
