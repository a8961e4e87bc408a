use Rattle.std.proofs.Common.{◌≡◌, false}
use Rattle.tries.proofs.reading.ways.read_by_bytes.Given as goal

abbrev pub invariant-loop-piece : goal.invariant-loop-piece
invariant-loop-piece l = l.reader.ended ≡ false
