use Rattle.std.proofs.Common.{length, ◌-◌, ℕ, ◌≤◌, List, ◌++◌, take}
use Rattle.persistence.specs.ReadingChunks.{IsInChunks}
use Rattle.persistence.proofs.chunks.feed_chunks.Given as goal

-- what holds of every text that may have come before
abbrev pub invariant-loop-at : goal.invariant-loop-at
invariant-loop-at l =
    (l.at ≤ length l.piece)
    × ((text : List ℕ) → IsInChunks text l.initial.chunks l.initial.buffer → IsInChunks (text ++ take l.at l.piece) l.chunks l.buffer)

abbrev pub decreases-loop-at : goal.decreases-loop-at
decreases-loop-at l = length l.piece - l.at
