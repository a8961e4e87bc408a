-- Why a run has no results.
use Rattle.std.specs.Prelude.{◌≡◌, ℕ, ◌≤◌, Bool, ◌||◌, ◌==◌, nat_lt}
use Rattle.driver.specs.declared.fault.DriverFault.{DriverFault}
use Rattle.driver.specs.declared.fault.DriverFault.TheVariants.{Memory, Poll, BadWorkers}

-- the faults that a run may have for what a worker met
abbrev pub IsWorkerFault : DriverFault → Type 0
IsWorkerFault Memory = Unit {0}
IsWorkerFault Poll = Unit {0}
IsWorkerFault _ = ⊥

-- there are no workers, or more than 64
abbrev pub are_bad_workers : ℕ → Bool
are_bad_workers workers = workers == 0 || nat_lt 64 workers

-- how many passes of a run with so many dials come back: all of them if a turn failed; if memory ran out, those that were
-- made before
abbrev pub ComeBack : DriverFault → ℕ → ℕ → Type 0
ComeBack Poll passes dials = passes ≡ dials
ComeBack BadWorkers passes dials = passes ≡ 0
ComeBack _ passes dials = passes ≤ dials
