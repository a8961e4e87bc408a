use Rattle.std.proofs.Common.{◌≡◌, ◌≤◌, vec_len, vec_capacity}
use Rattle.load_run.proofs.tools.progress_for.Given as goal

abbrev pub invariant-loop : goal.invariant-loop
invariant-loop l = record { number : vec_len l.progress ≡ l.counter; room : l.workers ≤ vec_capacity l.progress }
