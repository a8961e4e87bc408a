use Rattle.std.proofs.Common.{◌≡◌, ℕ, ◌-◌, ◌<◌, ◌≤◌, length, false, get_or}
use Rattle.host_state.specs.declared.idle.Idle.{Idle}
use Rattle.host_state.specs.Idle.{item_older}
use Rattle.host_state.proofs.closing.first_older.Given as goal

abbrev pub invariant-loop-place : goal.invariant-loop-place
invariant-loop-place g l = record {
  in_range : l.place ≤ length l.idle.items;
  none_before : (k : ℕ) (d : Idle g.row.S.Denot) → k < l.place → item_older l.max_age l.max_life l.moment (get_or l.idle.items k d) ≡ false;
}

abbrev pub decreases-loop-place : goal.decreases-loop-place
decreases-loop-place g l = length l.idle.items - l.place
