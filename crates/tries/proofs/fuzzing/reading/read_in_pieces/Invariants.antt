use Rattle.std.proofs.Common.{◌≡◌, false, length}
use Rattle.tries.proofs.fuzzing.reading.read_in_pieces.Given as goal

abbrev pub invariant-loop-rest : goal.invariant-loop-rest
invariant-loop-rest l = l.reader.ended ≡ false

abbrev pub decreases-loop-rest : goal.decreases-loop-rest
decreases-loop-rest l = length l.rest
