use Rattle.std.proofs.Common.{◌≡◌, ◌||◌, drop}
use Rattle.conn_log.specs.Scan.{is_wait_ended}
use Rattle.conn_log.proofs.readers.ends_wait_of.Given as goal

abbrev pub invariant-loop-entry : goal.invariant-loop-entry
invariant-loop-entry l = is_wait_ended l.entries l.transfer ≡ (l.ended || is_wait_ended (drop l.entry-index l.entries) l.transfer)
