use Rattle.std.proofs.Common.{◌≡◌, ℕ, ◌-◌, ◌<◌, ◌≤◌, length, false, get_or}
use Rattle.std.specs.Prelude.{◌==◌}
use Rattle.bundle.specs.declared.grant.Grant.{Grant}
use Rattle.bundle.proofs.grant.place_of.Given as goal

abbrev pub invariant-loop-place : goal.invariant-loop-place
invariant-loop-place g l = record {
  in_range : l.place ≤ length l.grants;
  none_before : (k : ℕ) (d : Grant g.row.S.Denot) → k < l.place → ((get_or l.grants k d).want.transfer == l.transfer) ≡ false;
}

abbrev pub decreases-loop-place : goal.decreases-loop-place
decreases-loop-place g l = length l.grants - l.place
