use Rattle.std.proofs.Common.{◌≡◌, reverse, take}
use Rattle.conn_log.specs.Behind.{since_behind}
use Rattle.conn_log.proofs.readers.last_return.Given as goal

abbrev pub invariant-loop-entry : goal.invariant-loop-entry
invariant-loop-entry l = l.since ≡ since_behind l.base (reverse (take l.entry-index l.rest)) l.connection
