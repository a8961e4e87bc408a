use Rattle.std.proofs.Common.{◌≡◌, ℕ, ◌<◌, ◌≤◌, length, false, get_or}
use Rattle.host_state.specs.declared.idle.Idle.{Idle}
use Rattle.host_state.specs.Idle.{is_before}
use Rattle.host_state.proofs.idle.place_from_end.Given as goal

abbrev pub invariant-loop-place : goal.invariant-loop-place
invariant-loop-place g l = record {
  in_range : l.place ≤ length l.idle.items;
  after : (k : ℕ) (d : Idle g.row.S.Denot) → l.place ≤ k → k < length l.idle.items → (let x = get_or l.idle.items k d in is_before x.since x.number l.since l.number) ≡ false;
}

abbrev pub decreases-loop-place : goal.decreases-loop-place
decreases-loop-place g l = l.place
