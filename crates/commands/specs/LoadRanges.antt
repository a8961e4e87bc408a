-- The ranges of a load's numbers.
use Rattle.std.specs.Prelude.{ℕ, ◌≤◌}

-- a number in a range
abbrev pub IsWithin : ℕ → ℕ → ℕ → Type 0
IsWithin least greatest n = (least ≤ n) × (n ≤ greatest)

-- the ranges of the six numbers
pub record AreInRange (sites jobs workers host_limit total connects : ℕ) : Type 0 where
  pub sites_in : IsWithin 1 8 sites
  pub jobs_in : IsWithin 1 4294967295 jobs
  pub workers_in : IsWithin 1 64 workers
  pub host_limit_in : IsWithin 0 65535 host_limit
  pub total_in : IsWithin 0 65535 total
  pub connects_in : IsWithin 1 65535 connects
