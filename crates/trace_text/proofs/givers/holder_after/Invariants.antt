use Rattle.std.proofs.Common.{◌≡◌, reverse, take}
use Rattle.conn_log.specs.Behind.{holder_behind}
use Rattle.trace_text.proofs.givers.holder_after.Given as goal

abbrev pub invariant-loop-place : goal.invariant-loop-place
invariant-loop-place l = holder_behind l.base (reverse (take l.place l.front)) l.connection ≡ holder_behind l.base (reverse l.front) l.connection
