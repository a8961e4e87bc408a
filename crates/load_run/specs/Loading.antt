-- The reasons why a load has no account.
use Rattle.std.specs.Prelude.{ℕ}
use Rattle.driver.specs.Running.{IsRefusedFor}
use Rattle.load_run.specs.declared.error.LoadError.{LoadError}
use Rattle.load_run.specs.declared.error.LoadError.TheVariants.{Run, Gather}

-- a fault of a run by that many workers, or a cache that could not be gathered
abbrev pub IsLoadRefusedFor : ℕ → LoadError → Type 0
IsLoadRefusedFor workers (Run fault) = IsRefusedFor workers fault
IsLoadRefusedFor workers Gather = Unit {0}
