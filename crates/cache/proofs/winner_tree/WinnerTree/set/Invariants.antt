use Rattle.std.proofs.Common.{slice_set}
use Rattle.cache.proofs.Replays.{IsReplayed}
use Rattle.cache.proofs.winner_tree.WinnerTree.set.Given as goal

abbrev pub invariant-loop-place : goal.invariant-loop-place
invariant-loop-place l = IsReplayed l.self-inside.hosts l.self-inside.nodes.items l.place (slice_set l.fn.self l.host l.fn.stamp)

abbrev pub decreases-loop-place : goal.decreases-loop-place
decreases-loop-place l = l.place
