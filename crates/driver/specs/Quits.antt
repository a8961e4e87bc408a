-- Why a worker gives up, and what that says of its dial's failed turns.
use Rattle.std.specs.Prelude.{◌≡◌, ℕ, Option, Some, None, Result, Ok, Err}
use Rattle.streams.specs.RisingCounts.{Rises}
use Rattle.exchange.specs.declared.done.Done.{Done}
use Rattle.exchange.specs.declared.job_run.JobStop.{JobStop}
use Rattle.exchange.specs.declared.job_run.JobStop.TheVariants.{Control, TurnFailed}
use Rattle.driver.specs.declared.fault.DriverFault.{DriverFault}
use Rattle.driver.specs.declared.fault.DriverFault.TheVariants as fault
use Rattle.driver.specs.declared.quit.Quit.{Quit}
use Rattle.driver.specs.declared.quit.Quit.TheVariants.{Poll, Told}
use Rattle.driver.specs.declared.stopped.Stopped.{Stopped}
use Rattle.driver.specs.declared.stopped.Stopped.TheVariants as stopped

-- the count of failed turns rises if a failed turn made the worker give up, and only then
abbrev pub QuitsSo : Option Quit → ℕ → ℕ → Type 0
QuitsSo (Some Poll) old new = Rises old new
QuitsSo _ old new = new ≡ old

-- the same of a call that fails if the worker gives up
abbrev pub QuitsOn : {X : Type 0} → Result X Quit → ℕ → ℕ → Type 0
QuitsOn (Err Poll) old new = Rises old new
QuitsOn _ old new = new ≡ old

-- the fault of a run for which this is the first reason
abbrev pub fault_of : Quit → DriverFault
fault_of Poll = fault.Poll
fault_of _ = fault.Memory

-- a worker's own reason goes before that another had given up
abbrev pub first_quit : Option Quit → Option Quit → Option Quit
first_quit None earlier = earlier
first_quit (Some Told) (Some quit) = Some quit
first_quit (Some quit) _ = Some quit

-- a worker stops a job so: the gate ends it, which may end it, or another worker had given up
abbrev pub MayStop : Type 0 → Stopped → Type 0
MayStop may_stop stopped.Gate = may_stop
MayStop may_stop stopped.Told = Unit {0}

-- how a job ended, or why its worker gives up, if the job stopped so
abbrev pub answer_at : Done → Option (JobStop Stopped) → Result Done Quit
answer_at done (Some (Control stopped.Told)) = Err Told
answer_at done (Some TurnFailed) = Err Poll
answer_at done _ = Ok done
