use Rattle.std.proofs.Common.{◌≡◌, reverse, take}
use Rattle.conn_log.specs.Behind.{holder_behind}
use Rattle.conn_log.proofs.readers.held_by.Given as goal

abbrev pub invariant-loop-entry : goal.invariant-loop-entry
invariant-loop-entry l = l.holder ≡ holder_behind l.base (reverse (take l.entry-index l.rest)) l.connection
