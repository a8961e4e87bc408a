use Rattle.std.proofs.Common.{◌≡◌, ◌≤◌, length}
use Rattle.conn_log.specs.Legal.{LimitAndFirst, IsLegal}
use Rattle.trace_text.specs.LogLines.{rest_lines}
use Rattle.trace_text.proofs.Written.{HasWritten}
use Rattle.trace_text.proofs.writing.write_lines.Given as goal

abbrev pub invariant-loop-place : goal.invariant-loop-place
invariant-loop-place l = record {
  fits : l.written ≤ length l.buffer;
  len : length l.buffer ≡ length l.fn.buffer;
  lines : (settings : LimitAndFirst) → IsLegal settings l.log.entries → HasWritten (rest_lines l.host l.log.entries l.log.cut_away l.from l.place) l.fn.buffer l.buffer l.written;
}
