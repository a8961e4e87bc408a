use Rattle.std.proofs.Common.{◌≡◌, ◌+◌, ◌<◌, ◌^◌, length}
use Rattle.conn_log.specs.Bases.{summary, past_of}
use Rattle.conn_log.proofs.Waits.{left_at}
use Rattle.conn_log.proofs.readers.waiting_len.Given as goal

abbrev pub invariant-loop-place : goal.invariant-loop-place
invariant-loop-place l = record {
  counted : l.count ≡ length (left_at (summary (past_of l.fn.log)).waiting l.rest l.place);
  bounded : l.count < 2 ^ 63 + l.place;
}
