-- The idle connections in the order in which they are closed.
use Rattle.std.proofs.Common.{◌≡◌, ℕ, Bool, true, false, not, ◌&&◌, ◌||◌, List, [], ◌∷◌, length, filter, slice_get, is_none, refl, sym, ap, subst, inl, inr, ◌∙◌, arith}
use Rattle.std.specs.Prelude.{◌==◌, nat_lt}
use Rattle.std.proofs.lemmas.Bool.Decides.{nat_tests, eqb_tells}
use Rattle.conn_log.specs.declared.entry.Entry.{Entry}
use Rattle.conn_log.specs.Connections.{is_among, opened, is_closed, holder_want, since, idle_connections, is_idle}
use Rattle.conn_log.specs.Fit.{first_by, is_idle_longer, idle_in_order, oldest}
use Rattle.conn_log.specs.Sound.{AreDistinct}
use Rattle.conn_log.proofs.Numbers.{is_among-filter, parted}
use Rattle.conn_log.proofs.Waits.{filter-filter}
use Rattle.conn_log.proofs.Steps.{IsGone, is_free, idle_of_opened}
use Rattle.conn_log.proofs.Sorted.{IsStrictOrder, IsInOrder, distinct-filter, among_in_order, length_in_order, distinct_in_order, in_order-filter, in_order_agree, is_in_order, in_order_is, filter_in_order, first_in_order}

-- earlier, at one host
abbrev is_earlier_here : ℕ → ℕ → ℕ → ℕ → Bool
is_earlier_here since number other_since other_number = nat_lt since other_since || ((since == other_since) && nat_lt number other_number)

here_one_way : (a c b d : ℕ) → is_earlier_here a c b d ≡ true → is_earlier_here b d a c ≡ false
here_one_way a c b d earlier = grind (arith, nat_tests, earlier)

here_onward : (a c b d e f : ℕ) → is_earlier_here a c b d ≡ true → is_earlier_here b d e f ≡ true → is_earlier_here a c e f ≡ true
here_onward a c b d e f first second = grind (arith, nat_tests, first, second)

here_either : (a c b d : ℕ) → (c == d) ≡ false → is_earlier_here a c b d ≡ false → is_earlier_here b d a c ≡ true
here_either a c b d apart later = grind (arith, nat_tests, apart, later)

-- idle for longer is an order that tells any two apart
pub idle_longer_strict : (log : List Entry) → IsStrictOrder (is_idle_longer log)
idle_longer_strict log = record {
  one_way = λ c d earlier. here_one_way (since log c) c (since log d) d earlier;
  onward = λ c d e first second. here_onward (since log c) c (since log d) d (since log e) e first second;
  either = λ c d apart later. here_either (since log c) c (since log d) d apart later;
}

-- where what is opened is distinct, so is what is idle
pub idle_distinct : (log : List Entry) → AreDistinct (opened log) → AreDistinct (idle_connections log)
idle_distinct log distinct = distinct-filter (λ c. is_none (holder_want log c)) (filter (λ c. not (is_closed log c)) (opened log)) (distinct-filter (λ c. not (is_closed log c)) (opened log) distinct)

pub among_idle_in_order : (log : List Entry) (c : ℕ) → is_among c (idle_in_order log) ≡ is_idle log c
among_idle_in_order log c = among_in_order (is_idle_longer log) c (idle_connections log)

pub length_idle_in_order : (log : List Entry) → length (idle_in_order log) ≡ length (idle_connections log)
length_idle_in_order log = length_in_order (is_idle_longer log) (idle_connections log)

module _ (log : List Entry) (distinct : AreDistinct (opened log)) where
  pub distinct_idle_in_order : AreDistinct (idle_in_order log)
  distinct_idle_in_order = distinct_in_order (is_idle_longer log) (idle_connections log) (idle_distinct log distinct)

  pub idle_is_in_order : IsInOrder (is_idle_longer log) (idle_in_order log)
  idle_is_in_order = is_in_order (is_idle_longer log) (idle_longer_strict log) (idle_connections log) (idle_distinct log distinct)

  -- a list in that order, of what is idle, is that list
  pub idle_in_order_is : (numbers : List ℕ) → IsInOrder (is_idle_longer log) numbers → ((c : ℕ) → is_among c numbers ≡ is_idle log c) → numbers ≡ idle_in_order log
  idle_in_order_is numbers ordered same = in_order_is (is_idle_longer log) (idle_longer_strict log) numbers (idle_connections log) (idle_distinct log distinct) ordered same

  -- the one idle for the longest of those that pass stands first
  pub first_that_passes : (test : ℕ → Bool) → first_by (is_idle_longer log) (filter test (idle_connections log)) ≡ slice_get (filter test (idle_in_order log)) 0
  first_that_passes test =
      first_in_order (is_idle_longer log) (idle_longer_strict log) (filter test (idle_connections log)) (distinct-filter test (idle_connections log) (idle_distinct log distinct))
      ∙ ap (λ numbers. slice_get numbers 0) (sym (filter_in_order (is_idle_longer log) (idle_longer_strict log) test (idle_connections log) (idle_distinct log distinct)))

  pub oldest_first : oldest log ≡ slice_get (idle_in_order log) 0
  oldest_first = first_in_order (is_idle_longer log) (idle_longer_strict log) (idle_connections log) (idle_distinct log distinct)

-- the other numbers
abbrev pub others : ℕ → List ℕ → List ℕ
others c numbers = filter (λ d. not (c == d)) numbers

-- of distinct numbers, all but the first
others_first : (c : ℕ) (numbers : List ℕ) → is_among c numbers ≡ false → others c (c ∷ numbers) ≡ numbers
others_first c numbers new =
    let here : (c == c) ≡ true = grind (arith, nat_tests) in
    rw here (all_pass numbers (λ d there. parted c d numbers new there))
  where
    all_pass : (xs : List ℕ) → ((d : ℕ) → is_among d xs ≡ true → (c == d) ≡ false) → others c xs ≡ xs
    all_pass [] none = refl
    all_pass (x ∷ xs) none =
        let apart : (c == x) ≡ false = none x (grind (arith, nat_tests)) in
        rw apart (ap (λ ns. x ∷ ns) (all_pass xs (λ d there. none d (grind (arith, there)))))

-- a connection is gone
module _ (c : ℕ) (log after : List Entry) (gone : IsGone c log after) where
  idle_gone : idle_connections after ≡ others c (idle_connections log)
  idle_gone =
      idle_of_opened after ∙ ap (filter (is_free after)) gone.opened
      ∙ sym (filter-filter (λ d. not (c == d)) (is_free log) (is_free after) (λ d. still d) (opened log))
      ∙ ap (others c) (sym (idle_of_opened log))
    where
      still : (d : ℕ) → is_free after d ≡ (is_free log d && not (c == d))
      still d = grind (arith, gone.closed d, gone.held d)

  -- the others stay in their order
  pub in_order_gone : AreDistinct (opened log) → idle_in_order after ≡ others c (idle_in_order log)
  in_order_gone distinct = sym (idle_in_order_is after (rw gone.opened distinct) (others c (idle_in_order log)) ordered same)
    where
      apart : (d : ℕ) → is_among d (others c (idle_in_order log)) ≡ true → (c == d) ≡ false
      apart d there = grind (arith, is_among-filter (λ n. not (c == n)) d (idle_in_order log), there)

      agree : (d e : ℕ) → is_among d (others c (idle_in_order log)) ≡ true → is_among e (others c (idle_in_order log)) ≡ true → is_idle_longer log d e ≡ is_idle_longer after d e
      agree d e d_there e_there = rw (gone.since d (apart d d_there), gone.since e (apart e e_there)) refl

      ordered : IsInOrder (is_idle_longer after) (others c (idle_in_order log))
      ordered = in_order_agree (is_idle_longer log) (is_idle_longer after) (others c (idle_in_order log)) agree (in_order-filter (is_idle_longer log) (λ d. not (c == d)) (idle_in_order log) (idle_is_in_order log distinct))

      same : (d : ℕ) → is_among d (others c (idle_in_order log)) ≡ is_idle after d
      same d =
          is_among-filter (λ n. not (c == n)) d (idle_in_order log) ∙ ap (λ b. b && not (c == d)) (among_idle_in_order log d)
          ∙ sym (is_among-filter (λ n. not (c == n)) d (idle_connections log)) ∙ ap (is_among d) (sym idle_gone)

  -- of those that pass, where the first one is gone, the rest are left
  pub passing_gone : AreDistinct (opened log) → (test still : ℕ → Bool) → ((d : ℕ) → (c == d) ≡ false → still d ≡ test d) → (rest : List ℕ) → filter test (idle_in_order log) ≡ c ∷ rest → filter still (idle_in_order after) ≡ rest
  passing_gone distinct test still agree rest first =
      let new : is_among c rest ≡ false = (first_distinct (distinct-filter test (idle_in_order log) (distinct_idle_in_order log distinct))).0 in
      ap (filter still) (in_order_gone distinct) ∙ both (idle_in_order log) ∙ ap (others c) first ∙ others_first c rest new
    where
      first_distinct : AreDistinct (filter test (idle_in_order log)) → AreDistinct (c ∷ rest)
      first_distinct each = subst AreDistinct first each

      both : (xs : List ℕ) → filter still (others c xs) ≡ others c (filter test xs)
      both [] = refl
      both (x ∷ xs) = elim (eqb_tells c x) [
        | inl here ↦ rw here.0 (grind (arith, here.0, both xs))
        | inr other ↦ rw (other.0, agree x other.0) (grind (arith, other.0, both xs))
      ]

  -- where the first one of all is gone
  pub first_gone : AreDistinct (opened log) → (rest : List ℕ) → idle_in_order log ≡ c ∷ rest → idle_in_order after ≡ rest
  first_gone distinct rest first =
      let each : AreDistinct (c ∷ rest) = subst AreDistinct first (distinct_idle_in_order log distinct) in
      in_order_gone distinct ∙ ap (others c) first ∙ others_first c rest each.0
