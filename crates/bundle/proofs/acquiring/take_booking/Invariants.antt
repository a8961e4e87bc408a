use Rattle.std.proofs.Common.{◌≡◌, ℕ, ◌-◌, ◌<◌, ◌≤◌, length, false, get_or}
use Rattle.std.specs.Prelude.{◌==◌}
use Rattle.bundle.proofs.acquiring.take_booking.Given as goal

abbrev pub invariant-loop-place : goal.invariant-loop-place
invariant-loop-place g l = record {
  same : l.bookings.items ≡ l.initial.bookings.items;
  in_range : l.place ≤ length l.bookings.items;
  none_before : (k d : ℕ) → k < l.place → (get_or l.bookings.items k d == l.transfer) ≡ false;
}

abbrev pub decreases-loop-place : goal.decreases-loop-place
decreases-loop-place g l = length l.bookings.items - l.place
