use Rattle.std.proofs.Common.{◌≡◌, ℕ, get_or, arith, sym, ap, subst, ◌∙◌}
use Rattle.host_state.specs.Bookings.{without_booked}
use Rattle.host_state.proofs.Bookings.{removed_booking, without_no_booking}
use Rattle.bundle.proofs.Outcomes.{unless_booking}
use Rattle.bundle.proofs.acquiring.take_booking.Goals as goal

pub returns-then-index-transfer-clause-booking_taken : goal.returns-then-index-transfer-clause-booking_taken
returns-then-index-transfer-clause-booking_taken g c =
    let loop = c.loop-place in
    let here : get_or loop.bookings.items loop.place c.args.transfer ≡ c.args.transfer = sym (subst (λ (n : ℕ). n ≡ get_or loop.bookings.items loop.place n) c.if-index-transfer.true c.index.ensures) in
    let removed = removed_booking loop.bookings.items c.args.transfer loop.place (record { in_range = omega (arith, c.loop-place-test.true, c.len.ensures, loop.bookings.ok); here = here; none_before = loop.invariant.none_before }) in
    unless_booking c.args.got.now _ (c.remove.ensures.items ∙ removed ∙ ap (without_booked c.args.transfer) loop.invariant.same)

pub returns-clause-booking_taken : goal.returns-clause-booking_taken
returns-clause-booking_taken g c =
    let loop = c.loop-place in
    let none = without_no_booking loop.bookings.items c.args.transfer (λ k d range. loop.invariant.none_before k d (omega (arith, range, c.loop-place-test.false, c.len.ensures))) in
    unless_booking c.args.got.now _ (sym none ∙ ap (without_booked c.args.transfer) loop.invariant.same)
