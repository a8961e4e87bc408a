-- The statuses of loads.
use Rattle.std.specs.Prelude.{ℕ, ◌==◌, Bool, Result, Ok, Err, if◌then◌else◌}

-- 5 if more requests failed than `--fail-above` allows; else 4 if no response is good, unless the load is plain; else 0
abbrev pub load_status : Bool → Bool → ℕ → ℕ
load_status is_plain fails good = if fails then 5 else (if is_plain then 0 else (if good == 0 then 4 else 0))

-- after a file that could not be written 4, unless the load had failed before
abbrev pub status_after : {A E : Type 0} → Result A E → ℕ → ℕ
status_after (Ok done) status = status
status_after (Err failure) status = if status == 0 then 4 else status
