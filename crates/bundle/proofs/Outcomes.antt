-- Who is halfway, and what room is left, by what an acquire gives.
use Rattle.std.proofs.Common.{◌≡◌, ℕ, ◌+◌, true, false, List, [], ◌∷◌, ◌++◌, length, sym, ap, subst, ◌∙◌, arith}
use Rattle.std.specs.Prelude.{◌==◌}
use Rattle.conn_log.specs.declared.entry.Want.{Want}
use Rattle.conn_log.specs.declared.entry.Entry.{Entry}
use Rattle.conn_log.specs.Connections.{is_among}
use Rattle.bundle.specs.declared.answers.Got.{Got}
use Rattle.bundle.specs.declared.answers.Got.TheVariants.{Lease, Wait, NoRoom, Again}
use Rattle.bundle.specs.Grants.{HasSpare}
use Rattle.host_state.specs.Bookings.{AreBooked, without_booked}
use Rattle.bundle.specs.Replies.{GivesBooking, UnlessBooking}
use Rattle.host_state.proofs.Transfers.{told}
use Rattle.host_state.proofs.Bookings.{IsOut, out_still, fewer_booked, more_booked, booked_left, booked_others, booked_still, booked_last}
use Rattle.bundle.proofs.OutcomesOfAcquires.{Outcome}
use Rattle.host_state.proofs.Outcomes.{IsHalfway}

module _ (want : Want) (log after : List Entry) where
  others_left : (booked left : List ℕ) → AreBooked log booked → left ≡ without_booked want.transfer booked → ((u : ℕ) → (want.transfer == u) ≡ false → told after u ≡ told log u) → AreBooked after left
  others_left booked left are left_is same = subst (AreBooked after) (sym left_is) (booked_left log after booked want.transfer are same)

  same_left : (booked left : List ℕ) → AreBooked log booked → left ≡ booked → IsHalfway log after → AreBooked after left
  same_left booked left are left_is out = subst (AreBooked after) (sym left_is) (booked_still log after booked are out.same)

  module _ (booked added : List ℕ) (are : AreBooked log booked) (not_booked : is_among want.transfer booked ≡ false) (free : IsOut log want.transfer) where
    none_added : added ≡ booked → ((u : ℕ) → (want.transfer == u) ≡ false → told after u ≡ told log u) → AreBooked after added
    none_added same others = subst (AreBooked after) (sym same) (booked_others log after booked want.transfer are not_booked others)

    one_added : added ≡ booked ++ want.transfer ∷ [] → IsHalfway log after → AreBooked after added
    one_added is out = subst (AreBooked after) (sym is) (booked_last after booked want.transfer (booked_still log after booked are out.same) not_booked (out_still log after want.transfer (out.same want.transfer) free))

module _ {S : Type 0} where
  pub unless_booking : (got : Got S) (P : Type 0) → P → UnlessBooking got P
  unless_booking (Lease lease) P p = p
  unless_booking (Wait ticket) P p = p
  unless_booking (NoRoom booking) P p = tt
  unless_booking (Again booking) P p = tt

  -- so many are booked, of whom one is no more where it is not halfway
  pub count_left : (got : Got S) (booked left : List ℕ) (transfer n m : ℕ) → n ≡ length booked → is_among transfer booked ≡ true → UnlessBooking got (m + 1 ≡ n) → GivesBooking got (λ booking. m ≡ n) → UnlessBooking got (left ≡ without_booked transfer booked) → GivesBooking got (λ booking. left ≡ booked) → m ≡ length left
  count_left (Lease lease) booked left transfer n m count among fewer same left_is left_same = omega (arith, count, fewer, fewer_booked booked transfer among, ap length left_is)
  count_left (Wait ticket) booked left transfer n m count among fewer same left_is left_same = omega (arith, count, fewer, fewer_booked booked transfer among, ap length left_is)
  count_left (NoRoom booking) booked left transfer n m count among fewer same left_is left_same = same ∙ count ∙ ap length (sym left_same)
  count_left (Again booking) booked left transfer n m count among fewer same left_is left_same = same ∙ count ∙ ap length (sym left_same)

  -- or who is one more where it is
  pub count_added : (got : Got S) (booked added : List ℕ) (transfer n m : ℕ) → n ≡ length booked → UnlessBooking got (m + 1 ≡ n + 1) → GivesBooking got (λ booking. m ≡ n + 1) → UnlessBooking got (added ≡ booked) → GivesBooking got (λ booking. added ≡ booked ++ transfer ∷ []) → m ≡ length added
  count_added (Lease lease) booked added transfer n m count fewer same added_same added_is = omega (arith, count, fewer, ap length added_same)
  count_added (Wait ticket) booked added transfer n m count fewer same added_same added_is = omega (arith, count, fewer, ap length added_same)
  count_added (NoRoom booking) booked added transfer n m count fewer same added_same added_is = omega (arith, count, same, more_booked booked transfer, ap length added_is)
  count_added (Again booking) booked added transfer n m count fewer same added_same added_is = omega (arith, count, same, more_booked booked transfer, ap length added_is)

  module _ (want : Want) (log after : List Entry) where
    -- room for what may be granted
    pub spare_after : (got : Got S) → Outcome want log after got → (n m granted capacity : ℕ) → UnlessBooking got (m + 1 ≡ n) → GivesBooking got (λ booking. m ≡ n) → HasSpare log n granted capacity → HasSpare after m granted capacity
    spare_after (Lease lease) out n m granted capacity fewer same spare = omega (arith, out.queue, fewer, spare)
    spare_after (Wait ticket) out n m granted capacity fewer same spare = omega (arith, out.queue, fewer, spare)
    spare_after (NoRoom booking) out n m granted capacity fewer same spare = omega (arith, out.queue, same, spare)
    spare_after (Again booking) out n m granted capacity fewer same spare = omega (arith, out.queue, same, spare)

    -- who is halfway neither holds nor waits
    pub bookings_left : (got : Got S) → Outcome want log after got → (booked left : List ℕ) → AreBooked log booked → UnlessBooking got (left ≡ without_booked want.transfer booked) → GivesBooking got (λ booking. left ≡ booked) → AreBooked after left
    bookings_left (Lease lease) out booked left are left_is left_same = others_left want log after booked left are left_is out.others
    bookings_left (Wait ticket) out booked left are left_is left_same = others_left want log after booked left are left_is out.others
    bookings_left (NoRoom booking) out booked left are left_is left_same = same_left want log after booked left are left_same out
    bookings_left (Again booking) out booked left are left_is left_same = same_left want log after booked left are left_same out

    module _ (booked added : List ℕ) (are : AreBooked log booked) (not_booked : is_among want.transfer booked ≡ false) (free : IsOut log want.transfer) where
      pub bookings_added : (got : Got S) → Outcome want log after got → UnlessBooking got (added ≡ booked) → GivesBooking got (λ booking. added ≡ booked ++ want.transfer ∷ []) → AreBooked after added
      bookings_added (Lease lease) out same is = none_added want log after booked added are not_booked free same out.others
      bookings_added (Wait ticket) out same is = none_added want log after booked added are not_booked free same out.others
      bookings_added (NoRoom booking) out same is = one_added want log after booked added are not_booked free is out
      bookings_added (Again booking) out same is = one_added want log after booked added are not_booked free is out
