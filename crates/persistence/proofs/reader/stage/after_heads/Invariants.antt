use Rattle.std.proofs.Common.{ℕ, ◌-◌, ◌≤◌, List, ◌++◌, length, take}
use Rattle.persistence.specs.ReadingHeads.{AwaitsHeads}
use Rattle.persistence.proofs.reader.stage.after_heads.Given as goal

abbrev pub invariant-loop-at : goal.invariant-loop-at
invariant-loop-at l = (l.at ≤ length l.piece)
    × ((bytes : List ℕ) → AwaitsHeads bytes l.fn.skipped l.fn.buffer → AwaitsHeads (bytes ++ take l.at l.piece) l.count l.buffer)

abbrev pub decreases-loop-at : goal.decreases-loop-at
decreases-loop-at l = length l.piece - l.at
