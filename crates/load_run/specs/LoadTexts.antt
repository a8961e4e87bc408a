-- What a load does, and what is written of it.
use Rattle.std.specs.Prelude.{◌≡◌, ℕ, codes, string_bytes, Result, Ok, Err}
use Rattle.clap.specs.Words.{Text}
use Rattle.streams.specs.declared.stream_fault.StreamFault.{StreamFault}
use Rattle.streams.specs.Streams.{Stream, Puts}
use Rattle.commands.specs.declared.load_plan.LoadPlan.{LoadPlan}
use Rattle.load_run.specs.declared.load.outcome.LoadOutcome.{LoadOutcome}
use Rattle.load_run.specs.declared.load.failure.LoadFailure.{LoadFailure}
use Rattle.load_run.specs.declared.load.fault.LoadFault.{LoadFault}
use Rattle.load_run.specs.declared.load.fault.LoadFault.TheVariants.{Load, Listen, Write}
use Rattle.driver.specs.declared.fault.DriverFault.TheVariants.{Memory, BadWorkers, Poll, Doubled, Missing, Spawn}
use Rattle.load_run.specs.declared.error.LoadError.TheVariants.{Run, Gather}

-- what is told of each fault, after `run: `
abbrev pub load_fault_text : LoadFault → Text
load_fault_text (Load (Run Memory)) = codes "out of memory"
load_fault_text (Load (Run BadWorkers)) = codes "bad workers"
load_fault_text (Load (Run Poll)) = codes "poll failed"
load_fault_text (Load (Run Doubled)) = codes "job collected twice"
load_fault_text (Load (Run Missing)) = codes "job missing"
load_fault_text (Load (Run Spawn)) = codes "cannot start thread"
load_fault_text (Load Gather) = codes "cannot gather"
load_fault_text Listen = codes "cannot listen"
load_fault_text Write = codes "cannot write"

-- a load of that plan comes to this, or has this fault
abbrev pub Loading : Type 1
Loading = LoadPlan → Result LoadOutcome LoadFailure → Type 0

-- 0 if a text was written whole, else 4
abbrev pub written_status : {A : Type 0} → Result A StreamFault → ℕ
written_status (Ok done) = 0
written_status (Err kind) = 4

-- a text is written, or a front of it if writing fails
abbrev pub WritesText : Text → Stream → Stream → ℕ → Type 0
WritesText text old new status = (result : Result (Unit {0}) StreamFault) × Puts old new text result × (status ≡ written_status result)

-- the status of a load if its report was written whole, else 4
abbrev pub outcome_status : {A : Type 0} → ℕ → Result A StreamFault → ℕ
outcome_status status (Ok done) = status
outcome_status status (Err kind) = 4

-- the report is written, or a front of it if writing fails; if there is none, nothing is
abbrev pub WritesReport : Result LoadOutcome LoadFailure → Stream → Stream → ℕ → Type 0
WritesReport (Ok outcome) old new status =
    (result : Result (Unit {0}) StreamFault) × Puts old new (string_bytes outcome.report) result × (status ≡ outcome_status outcome.status result)
WritesReport (Err fault) old new status = (new ≡ old) × (status ≡ 4)

-- a load was carried out, and its report written
pub record RunsLoad (Loads : Loading) (plan : LoadPlan) (old new : Stream) (status : ℕ) : Type 0 where
  pub outcome : Result LoadOutcome LoadFailure
  pub loads : Loads plan outcome
  pub writes : WritesReport outcome old new status
