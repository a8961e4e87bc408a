use Rattle.std.proofs.Common.{◌≡◌, length}
use Rattle.persistence.specs.ReadingHeads.{skip_newlines}
use Rattle.persistence.proofs.head.lines.past_newlines.Given as goal

abbrev pub invariant-loop-rest : goal.invariant-loop-rest
invariant-loop-rest l = skip_newlines l.rest ≡ skip_newlines l.text

abbrev pub decreases-loop-rest : goal.decreases-loop-rest
decreases-loop-rest l = length l.rest
