use Rattle.std.proofs.Common.{◌≡◌, reverse, take}
use Rattle.conn_log.specs.Behind.{oldest_among, opened_behind}
use Rattle.conn_log.proofs.readers.idle_oldest.Given as goal

abbrev pub invariant-loop-entry : goal.invariant-loop-entry
invariant-loop-entry l = l.oldest ≡ oldest_among l.base (reverse l.rest) l.host (opened_behind l.base (reverse (take l.entry-index l.rest)))
