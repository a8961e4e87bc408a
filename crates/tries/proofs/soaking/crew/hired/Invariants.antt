use Rattle.std.proofs.Common.{◌≡◌, ◌≤◌, vec_len, vec_capacity}
use Rattle.tries.proofs.soaking.crew.hired.Given as goal

abbrev pub invariant-loop-index : goal.invariant-loop-index
invariant-loop-index g l = (vec_len l.workers ≡ l.index) × (l.threads ≤ vec_capacity l.workers)
