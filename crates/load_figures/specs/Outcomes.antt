-- What a job's end means to a load.
use Rattle.std.specs.Prelude.{ℕ, Bool, if◌then◌else◌, ◌&&◌, nat_le, nat_lt}
use Rattle.exchange.specs.declared.done.Done.{Done}
use Rattle.exchange.specs.declared.done.Fault.{Fault}
use Rattle.load_figures.specs.declared.outcome.Outcome.{Outcome}

-- a whole response failed if its status is an error, and errors fail
abbrev pub outcome_of_status : ℕ → Bool → Outcome
outcome_of_status status fails_statuses =
    if fails_statuses && nat_le 400 status then Outcome.Failed else Outcome.Good

-- a job that was cancelled was stopped, unless there is a time limit and it had taken as long
abbrev pub outcome_of_cancelled : ℕ → ℕ → Outcome
outcome_of_cancelled took timeout =
    if nat_lt 0 timeout && nat_le timeout took then Outcome.Failed else Outcome.Stopped

-- what a fault means
abbrev pub outcome_of_fault : Fault → ℕ → ℕ → Outcome
outcome_of_fault Fault.Cancelled took timeout = outcome_of_cancelled took timeout
outcome_of_fault _ took timeout = Outcome.Failed

-- what an end means
abbrev pub outcome_of : Done → ℕ → ℕ → Bool → Outcome
outcome_of (Done.Good answer) took timeout fails_statuses = outcome_of_status answer.status fails_statuses
outcome_of (Done.Bad fault) took timeout fails_statuses = outcome_of_fault fault took timeout
