use Rattle.std.proofs.Common.{◌≡◌, ◌+◌, ◌<◌, ◌^◌, length, reverse, take}
use Rattle.conn_log.specs.Behind.{left_open, opened_behind}
use Rattle.conn_log.specs.Bases.{summary, past_of}
use Rattle.conn_log.proofs.readers.open_count.Given as goal

abbrev pub invariant-loop-entry : goal.invariant-loop-entry
invariant-loop-entry l = record {
  counted : l.count ≡ length (left_open (reverse l.rest) (opened_behind (summary (past_of l.fn.log)) (reverse (take l.entry-index l.rest))));
  bounded : l.count < 2 ^ 63 + l.entry-index;
}
