use Rattle.std.proofs.Common.{◌≡◌, ◌||◌, drop}
use Rattle.conn_log.specs.Scan.{is_any_wait_begun}
use Rattle.conn_log.proofs.still_waiting.begins_any_wait.Given as goal

abbrev pub invariant-loop-entry : goal.invariant-loop-entry
invariant-loop-entry l = is_any_wait_begun l.rest ≡ (l.begun || is_any_wait_begun (drop l.entry-index l.rest))
