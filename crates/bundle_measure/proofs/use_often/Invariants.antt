use Rattle.std.proofs.Common.{◌≡◌, ◌≤◌, false}
use Rattle.host_state.specs.Calls.{is_queued}
use Rattle.bundle_measure.proofs.use_often.Given as goal

abbrev pub invariant-loop-round : goal.invariant-loop-round
invariant-loop-round l = (l.reused ≤ l.round) × (is_queued l.host.settings l.host.log ≡ false)
