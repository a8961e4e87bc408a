-- The transfers whose acquires are halfway, beside what the log tells of them.
use Rattle.std.proofs.Common.{◌≡◌, ℕ, zero, suc, ◌+◌, ◌<◌, true, false, List, [], ◌∷◌, ◌++◌, length, get_or, None, is_some, refl, sym, ap, subst, inl, inr, ◌∙◌, arith}
use Rattle.std.specs.Prelude.{◌==◌}
use Rattle.std.specs.List.{remove}
use mathlib.Core.Bool.{false≢true}
use Rattle.std.proofs.lemmas.Bool.Decides.{nat_tests, eqb_tells}
use Rattle.conn_log.specs.declared.entry.Entry.{Entry}
use Rattle.conn_log.specs.Connections.{is_among, held_number}
use Rattle.conn_log.specs.Waiting.{waiting, waits}
use Rattle.host_state.specs.Bookings.{AreBooked, without_booked}
use Rattle.host_state.proofs.Transfers.{Told, told, awaited_waits}

-- where the place of a booking is found, and where it is not
pub record IsBookedAt (transfer : ℕ) (booked : List ℕ) (place : ℕ) : Type 0 where
  pub in_range : place < length booked
  pub here : get_or booked place transfer ≡ transfer
  pub none_before : (k d : ℕ) → k < place → (get_or booked k d == transfer) ≡ false

pub removed_booking : (booked : List ℕ) (transfer place : ℕ) → IsBookedAt transfer booked place → remove booked place ≡ without_booked transfer booked
removed_booking [] transfer place found = absurd (omega (arith, found.in_range))
removed_booking (t ∷ others) transfer zero found =
    let it : (t == transfer) ≡ true = grind (arith, nat_tests, found.here) in
    rw it refl
removed_booking (t ∷ others) transfer (suc place) found = rw (found.none_before 0 t (omega arith)) (ap (λ rest. t ∷ rest) (removed_booking others transfer place (record { in_range = omega (arith, found.in_range); here = found.here; none_before = λ k d before. found.none_before (suc k) d (omega (arith, before)) })))

pub without_no_booking : (booked : List ℕ) (transfer : ℕ) → ((k d : ℕ) → k < length booked → (get_or booked k d == transfer) ≡ false) → without_booked transfer booked ≡ booked
without_no_booking [] transfer none = refl
without_no_booking (t ∷ others) transfer none = rw (none 0 t (omega arith)) (ap (λ rest. t ∷ rest) (without_no_booking others transfer (λ k d range. none (suc k) d (omega (arith, range)))))

-- one fewer is left
pub fewer_booked : (booked : List ℕ) (transfer : ℕ) → is_among transfer booked ≡ true → length (without_booked transfer booked) + 1 ≡ length booked
fewer_booked [] transfer among = absurd (false≢true among)
fewer_booked (t ∷ others) transfer among = elim (eqb_tells t transfer) [
  | inl same ↦ rw same.0 (omega arith)
  | inr other ↦
      let rest : is_among transfer others ≡ true = grind (arith, nat_tests, among, other.0) in
      rw other.0 (omega (arith, fewer_booked others transfer rest))
]

-- it neither holds nor waits
pub record IsOut (log : List Entry) (transfer : ℕ) : Type 0 where
  pub free : held_number log transfer ≡ None
  pub waits_not : waits log transfer ≡ false

pub out_by : (log : List Entry) (booked : List ℕ) (transfer : ℕ) → AreBooked log booked → is_among transfer booked ≡ true → IsOut log transfer
out_by log [] transfer are among = absurd (false≢true among)
out_by log (t ∷ others) transfer are among = elim (eqb_tells t transfer) [
  | inl same ↦ subst (λ u. IsOut log u) same.1 (record { free = are.0; waits_not = are.1 })
  | inr other ↦ out_by log others transfer are.3 (grind (arith, nat_tests, among, other.0))
]

pub out_still : (log after : List Entry) (t : ℕ) → told after t ≡ told log t → IsOut log t → IsOut after t
out_still log after t same out = record {
  free = ap (λ (told : Told). told.number) same ∙ out.free;
  waits_not = sym (awaited_waits t (waiting after)) ∙ ap (λ (told : Told). is_some told.awaited) same ∙ awaited_waits t (waiting log) ∙ out.waits_not;
}

-- those that are left are as before where the same is told of all but one
pub booked_others : (log after : List Entry) (booked : List ℕ) (transfer : ℕ) → AreBooked log booked → is_among transfer booked ≡ false → ((u : ℕ) → (transfer == u) ≡ false → told after u ≡ told log u) → AreBooked after booked
booked_others log after [] transfer are out same = tt
booked_others log after (t ∷ others) transfer are out same =
    let apart : (transfer == t) ≡ false = grind (arith, nat_tests, out) in
    let rest : is_among transfer others ≡ false = grind (arith, nat_tests, out) in
    let still = out_still log after t (same t apart) (record { free = are.0; waits_not = are.1 }) in
    (still.free, still.waits_not, are.2, booked_others log after others transfer are.3 rest same)

among_without : (booked : List ℕ) (transfer t : ℕ) → is_among t booked ≡ false → is_among t (without_booked transfer booked) ≡ false
among_without [] transfer t out = refl
among_without (u ∷ others) transfer t out = elim (eqb_tells u transfer) [
  | inl same ↦ rw same.0 (grind (arith, nat_tests, out))
  | inr other ↦
      let here : (u == t) ≡ false = grind (arith, nat_tests, out) in
      let rest : is_among t others ≡ false = grind (arith, nat_tests, out) in
      rw (other.0, here) (among_without others transfer t rest)
]

pub booked_left : (log after : List Entry) (booked : List ℕ) (transfer : ℕ) → AreBooked log booked → ((u : ℕ) → (transfer == u) ≡ false → told after u ≡ told log u) → AreBooked after (without_booked transfer booked)
booked_left log after [] transfer are same = tt
booked_left log after (t ∷ others) transfer are same = elim (eqb_tells t transfer) [
  | inl here ↦ rw here.0 (booked_others log after others transfer are.3 (ap (λ u. is_among u others) (sym here.1) ∙ are.2) same)
  | inr other ↦
      let apart : (transfer == t) ≡ false = grind (arith, nat_tests, other.0) in
      let still = out_still log after t (same t apart) (record { free = are.0; waits_not = are.1 }) in
      rw other.0 (still.free, still.waits_not, among_without others transfer t are.2, booked_left log after others transfer are.3 same)
]

-- the same is told of all
pub booked_still : (log after : List Entry) (booked : List ℕ) → AreBooked log booked → ((u : ℕ) → told after u ≡ told log u) → AreBooked after booked
booked_still log after [] are same = tt
booked_still log after (t ∷ others) are same =
    let still = out_still log after t (same t) (record { free = are.0; waits_not = are.1 }) in
    (still.free, still.waits_not, are.2, booked_still log after others are.3 same)

-- one more
among_last : (booked : List ℕ) (transfer t : ℕ) → is_among t booked ≡ false → (transfer == t) ≡ false → is_among t (booked ++ transfer ∷ []) ≡ false
among_last [] transfer t out apart = grind (arith, nat_tests, apart)
among_last (u ∷ others) transfer t out apart =
    let here : (u == t) ≡ false = grind (arith, nat_tests, out) in
    let rest : is_among t others ≡ false = grind (arith, nat_tests, out) in
    rw here (among_last others transfer t rest apart)

pub booked_last : (log : List Entry) (booked : List ℕ) (transfer : ℕ) → AreBooked log booked → is_among transfer booked ≡ false → IsOut log transfer → AreBooked log (booked ++ transfer ∷ [])
booked_last log [] transfer are out free = (free.free, free.waits_not, refl, tt)
booked_last log (t ∷ others) transfer are out free =
    let apart : (transfer == t) ≡ false = grind (arith, nat_tests, out) in
    let rest : is_among transfer others ≡ false = grind (arith, nat_tests, out) in
    (are.0, are.1, among_last others transfer t are.2 apart, booked_last log others transfer are.3 rest free)

pub more_booked : (booked : List ℕ) (transfer : ℕ) → length (booked ++ transfer ∷ []) ≡ length booked + 1
more_booked [] transfer = refl
more_booked (t ∷ others) transfer = omega (arith, more_booked others transfer)
