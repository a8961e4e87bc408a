use Rattle.std.proofs.Common.{◌-◌, ◌≤◌, vec_len, vec_capacity}
use Rattle.shared_cache.proofs.hints.Hints.new.Given as goal

abbrev pub invariant-loop-words : goal.invariant-loop-words
invariant-loop-words l = (vec_len l.words ≤ l.hosts) × (l.hosts ≤ vec_capacity l.words)

abbrev pub decreases-loop-words : goal.decreases-loop-words
decreases-loop-words l = l.hosts - vec_len l.words
