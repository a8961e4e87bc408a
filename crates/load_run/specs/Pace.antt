-- When the jobs of a load are due.
use Rattle.std.specs.Prelude.{ℕ, ◌+◌, ◌-◌, ◌*◌, ◌/◌, ◌^◌, min}

-- job K of so many in a second, in microseconds after the start
abbrev pub due_at : ℕ → ℕ → ℕ
due_at in_second number = min (number * 1000000 / in_second) (2 ^ 64 - 1)

-- how many of so many jobs are due before then: the least number whose job is not
abbrev pub due_before : ℕ → ℕ → ℕ → ℕ
due_before in_second jobs micros = min ((micros * in_second + 999999) / 1000000) jobs
