use Rattle.std.proofs.Common.{◌≡◌, reverse, take}
use Rattle.conn_log.specs.Connections.{is_closed}
use Rattle.conn_log.proofs.readers.was_closed.Given as goal

abbrev pub invariant-loop-entry : goal.invariant-loop-entry
invariant-loop-entry l = l.closed ≡ is_closed (reverse (take l.entry-index l.entries)) l.connection
