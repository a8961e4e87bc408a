-- The program's exit statuses.
use Rattle.std.specs.Prelude.{ℕ}
use Rattle.commands.specs.declared.status.Status.{Status}
use Rattle.commands.specs.declared.status.Status.TheVariants.{Done, Broken, Refused, Stopped, Failed, FailedAbove, Interrupted}

abbrev pub status_code : Status → ℕ
status_code Done = 0
status_code Broken = 1
status_code Refused = 2
status_code Stopped = 3
status_code Failed = 4
status_code FailedAbove = 5
status_code Interrupted = 130
