-- Numbers put in order, where the order tells any two apart.
use Rattle.std.proofs.Common.{◌≡◌, ℕ, suc, ◌+◌, ◌<◌, Bool, true, false, ◌&&◌, ◌||◌, List, [], ◌∷◌, length, map, filter, get_or, slice_get, AllPairs, Some, refl, sym, ap, subst, inl, inr, ◌∙◌, arith}
use Rattle.std.specs.Prelude.{◌==◌, if◌then◌else◌, ◌⊎◌}
use Rattle.std.specs.Option.{option_map_or}
use mathlib.Core.Bool.{false≢true}
use Rattle.std.proofs.lemmas.Bool.Decides.{nat_tests, eqb_tells}
use Rattle.conn_log.specs.Connections.{is_among}
use Rattle.conn_log.specs.Fit.{first_by, put_in_order, in_order}
use Rattle.conn_log.specs.Sound.{AreDistinct}
use Rattle.conn_log.proofs.Numbers.{is_among-filter}

-- of two numbers exactly one goes before the other, and what goes before one goes before those after it
pub record IsStrictOrder (goes_before : ℕ → ℕ → Bool) : Type 0 where
  pub one_way : (c d : ℕ) → goes_before c d ≡ true → goes_before d c ≡ false
  pub onward : (c d e : ℕ) → goes_before c d ≡ true → goes_before d e ≡ true → goes_before c e ≡ true
  pub either : (c d : ℕ) → (c == d) ≡ false → goes_before c d ≡ false → goes_before d c ≡ true

-- the number goes before each of these
abbrev pub GoesBeforeAll : (ℕ → ℕ → Bool) → ℕ → List ℕ → Type 0
GoesBeforeAll goes_before c numbers = (d : ℕ) → is_among d numbers ≡ true → goes_before c d ≡ true

-- each one goes before those after it
abbrev pub IsInOrder : (ℕ → ℕ → Bool) → List ℕ → Type 0
IsInOrder goes_before [] = Unit {0}
IsInOrder goes_before (c ∷ numbers) = GoesBeforeAll goes_before c numbers × IsInOrder goes_before numbers

-- the same numbers stand in both lists
abbrev pub HasSameNumbers : List ℕ → List ℕ → Type 0
HasSameNumbers xs ys = (d : ℕ) → is_among d xs ≡ is_among d ys

pub told : (b : Bool) → (b ≡ true) ⊎ (b ≡ false)
told true = inl refl
told false = inr refl

or_either : (a b : Bool) → (a || b) ≡ true → (a ≡ true) ⊎ (b ≡ true)
or_either true b some = inl refl
or_either false b some = inr some

-- of a list of distinct numbers each part that a filter leaves is distinct
pub distinct-filter : (p : ℕ → Bool) (xs : List ℕ) → AreDistinct xs → AreDistinct (filter p xs)
distinct-filter p [] distinct = tt
distinct-filter p (x ∷ xs) distinct = elim (told (p x)) [
  | inl passes ↦ rw passes (is_among-filter p x xs ∙ ap (λ b. b && p x) distinct.0, distinct-filter p xs distinct.1)
  | inr fails ↦ rw fails (distinct-filter p xs distinct.1)
]

-- the same numbers, with one more
module _ (goes_before : ℕ → ℕ → Bool) where
  put_among : (d x : ℕ) (xs : List ℕ) → is_among d (put_in_order goes_before x xs) ≡ ((x == d) || is_among d xs)
  put_among d x [] = refl
  put_among d x (y ∷ ys) = elim (told (goes_before x y)) [
    | inl first ↦ rw first refl
    | inr later ↦ rw later (grind (arith, put_among d x ys))
  ]

  pub among_in_order : (d : ℕ) (xs : List ℕ) → is_among d (in_order goes_before xs) ≡ is_among d xs
  among_in_order d [] = refl
  among_in_order d (x ∷ xs) = put_among d x (in_order goes_before xs) ∙ ap (λ b. (x == d) || b) (among_in_order d xs)

  length_put : (x : ℕ) (xs : List ℕ) → length (put_in_order goes_before x xs) ≡ length xs + 1
  length_put x [] = refl
  length_put x (y ∷ ys) = elim (told (goes_before x y)) [
    | inl first ↦ rw first (omega arith)
    | inr later ↦ rw later (omega (arith, length_put x ys))
  ]

  pub length_in_order : (xs : List ℕ) → length (in_order goes_before xs) ≡ length xs
  length_in_order [] = refl
  length_in_order (x ∷ xs) = omega (arith, length_put x (in_order goes_before xs), length_in_order xs)

  distinct_put : (x : ℕ) (xs : List ℕ) → AreDistinct xs → is_among x xs ≡ false → AreDistinct (put_in_order goes_before x xs)
  distinct_put x [] distinct new = (refl, tt)
  distinct_put x (y ∷ ys) distinct new = elim (told (goes_before x y)) [
    | inl first ↦ rw first (new, distinct)
    | inr later ↦ rw later (grind (arith, nat_tests, put_among y x ys, distinct.0, new), distinct_put x ys distinct.1 (grind (arith, nat_tests, new)))
  ]

  pub distinct_in_order : (xs : List ℕ) → AreDistinct xs → AreDistinct (in_order goes_before xs)
  distinct_in_order [] distinct = tt
  distinct_in_order (x ∷ xs) distinct = distinct_put x (in_order goes_before xs) (distinct_in_order xs distinct.1) (among_in_order x xs ∙ distinct.0)

  -- a filter leaves an order
  pub in_order-filter : (p : ℕ → Bool) (xs : List ℕ) → IsInOrder goes_before xs → IsInOrder goes_before (filter p xs)
  in_order-filter p [] ordered = tt
  in_order-filter p (x ∷ xs) ordered = elim (told (p x)) [
    | inl passes ↦ rw passes (λ d there. ordered.0 d (grind (arith, is_among-filter p d xs, there)), in_order-filter p xs ordered.1)
    | inr fails ↦ rw fails (in_order-filter p xs ordered.1)
  ]

  -- in order by pairs
  pub in_order_by_pairs : {S : Type 0} (number : S → ℕ) (items : List S) → AllPairs (λ x y. goes_before (number x) (number y) ≡ true) items → IsInOrder goes_before (map number items)
  in_order_by_pairs number [] pairs = tt
  in_order_by_pairs {S} number (x ∷ items) pairs = (after items (λ k e below. pairs 0 (suc k) e (omega arith) (omega arith)), in_order_by_pairs number items (λ i j e lt below. pairs (suc i) (suc j) e (omega arith) (omega arith)))
    where
      after : (others : List S) → ((k : ℕ) (e : S) → k < length others → goes_before (number x) (number (get_or others k e)) ≡ true) → GoesBeforeAll goes_before (number x) (map number others)
      after [] each d among = absurd (false≢true among)
      after (y ∷ others) each d among = elim (eqb_tells (number y) d) [
        | inl here ↦ subst (λ (n : ℕ). goes_before (number x) n ≡ true) here.1 (each 0 y (omega arith))
        | inr other ↦ after others (λ k e below. each (suc k) e (omega arith)) d (grind (arith, nat_tests, among, other.0))
      ]

-- two orders that agree on these numbers
pub in_order_agree : (one other : ℕ → ℕ → Bool) (xs : List ℕ) → ((c d : ℕ) → is_among c xs ≡ true → is_among d xs ≡ true → one c d ≡ other c d) → IsInOrder one xs → IsInOrder other xs
in_order_agree one other [] agree ordered = tt
in_order_agree one other (x ∷ xs) agree ordered = (
  λ d there. sym (agree x d (grind (arith, nat_tests)) (grind (arith, there))) ∙ ordered.0 d there,
  in_order_agree one other xs (λ c d c_there d_there. agree c d (grind (arith, c_there)) (grind (arith, d_there))) ordered.1,
)

module _ (goes_before : ℕ → ℕ → Bool) (strict : IsStrictOrder goes_before) where
  never_itself : (c : ℕ) → goes_before c c ≡ true → ⊥
  never_itself c before = false≢true (sym (strict.one_way c c before) ∙ before)

  -- one more is put in its place
  put_is_in_order : (x : ℕ) (xs : List ℕ) → IsInOrder goes_before xs → is_among x xs ≡ false → IsInOrder goes_before (put_in_order goes_before x xs)
  put_is_in_order x [] ordered new = (λ d there. absurd (false≢true there), tt)
  put_is_in_order x (y ∷ ys) ordered new = elim (told (goes_before x y)) [
    | inl first ↦ rw first (
      λ d there. elim (or_either (y == d) (is_among d ys) there) [
        | inl here ↦ subst (λ (n : ℕ). goes_before x n ≡ true) (equal y d here) first
        | inr behind ↦ strict.onward x y d first (ordered.0 d behind)
      ],
      ordered,
    )
    | inr later ↦
        let before : goes_before y x ≡ true = strict.either x y (grind (arith, nat_tests, new)) later in
        rw later (
          λ d there. elim (or_either (x == d) (is_among d ys) (sym (put_among goes_before d x ys) ∙ there)) [
            | inl here ↦ subst (λ (n : ℕ). goes_before y n ≡ true) (equal x d here) before
            | inr behind ↦ ordered.0 d behind
          ],
          put_is_in_order x ys ordered.1 (grind (arith, nat_tests, new)),
        )
  ]
    where
      equal : (a b : ℕ) → (a == b) ≡ true → a ≡ b
      equal a b same = grind (arith, nat_tests, same)

  pub is_in_order : (xs : List ℕ) → AreDistinct xs → IsInOrder goes_before (in_order goes_before xs)
  is_in_order [] distinct = tt
  is_in_order (x ∷ xs) distinct = put_is_in_order x (in_order goes_before xs) (is_in_order xs distinct.1) (among_in_order goes_before x xs ∙ distinct.0)

  -- there is one order only
  pub one_order : (xs ys : List ℕ) → IsInOrder goes_before xs → IsInOrder goes_before ys → HasSameNumbers xs ys → xs ≡ ys
  one_order [] [] xs_ordered ys_ordered same = refl
  one_order [] (y ∷ ys) xs_ordered ys_ordered same = absurd (false≢true (same y ∙ grind (arith, nat_tests)))
  one_order (x ∷ xs) [] xs_ordered ys_ordered same = absurd (false≢true (sym (same x) ∙ grind (arith, nat_tests)))
  one_order (x ∷ xs) (y ∷ ys) xs_ordered ys_ordered same = elim (eqb_tells x y) [
    | inl here ↦
        let rest : xs ≡ ys = one_order xs ys xs_ordered.1 ys_ordered.1 (λ d. same_rest here.1 d) in
        ap (λ n. n ∷ xs) here.1 ∙ ap (λ ns. y ∷ ns) rest
    | inr apart ↦
        let x_behind : is_among x ys ≡ true = grind (arith, nat_tests, same x, apart.0) in
        let y_behind : is_among y xs ≡ true = grind (arith, nat_tests, same y, apart.0) in
        absurd (false≢true (sym (strict.one_way x y (xs_ordered.0 y y_behind)) ∙ ys_ordered.0 x x_behind))
  ]
    where
      same_rest : x ≡ y → (d : ℕ) → is_among d xs ≡ is_among d ys
      same_rest here d = elim (eqb_tells x d) [
        | inl it ↦ out xs x xs_ordered.0 d it.1 ∙ sym (out ys y ys_ordered.0 d (sym here ∙ it.1))
        | inr other ↦ grind (arith, nat_tests, same d, other.0, here)
      ]
        where
          out : (ns : List ℕ) (n : ℕ) → GoesBeforeAll goes_before n ns → (d : ℕ) → n ≡ d → is_among d ns ≡ false
          out ns n before d is = elim (told (is_among d ns)) [
            | inl there ↦ absurd (never_itself d (subst (λ (m : ℕ). goes_before m d ≡ true) is (before d there)))
            | inr none ↦ none
          ]

  -- a list in order with the same numbers is those numbers put in order
  pub in_order_is : (xs ys : List ℕ) → AreDistinct ys → IsInOrder goes_before xs → HasSameNumbers xs ys → xs ≡ in_order goes_before ys
  in_order_is xs ys distinct ordered same =
      one_order xs (in_order goes_before ys) ordered (is_in_order ys distinct) (λ d. same d ∙ sym (among_in_order goes_before d ys))

  -- those that pass, in order
  pub filter_in_order : (p : ℕ → Bool) (xs : List ℕ) → AreDistinct xs → filter p (in_order goes_before xs) ≡ in_order goes_before (filter p xs)
  filter_in_order p xs distinct =
      in_order_is (filter p (in_order goes_before xs)) (filter p xs) (distinct-filter p xs distinct) (in_order-filter goes_before p (in_order goes_before xs) (is_in_order xs distinct))
      (λ d. is_among-filter p d (in_order goes_before xs) ∙ ap (λ b. b && p d) (among_in_order goes_before d xs) ∙ sym (is_among-filter p d xs))

  -- what goes before each other one comes first
  pub first_in_order : (xs : List ℕ) → AreDistinct xs → first_by goes_before xs ≡ slice_get (in_order goes_before xs) 0
  first_in_order [] distinct = refl
  first_in_order (x ∷ xs) distinct =
      rw (first_in_order xs distinct.1) (put (in_order goes_before xs) (among_in_order goes_before x xs ∙ distinct.0))
    where
      put : (ys : List ℕ) → is_among x ys ≡ false → Some (option_map_or (λ d. if goes_before d x then d else x) (slice_get ys 0) x) ≡ slice_get (put_in_order goes_before x ys) 0
      put [] new = refl
      put (y ∷ ys) new = elim (told (goes_before x y)) [
        | inl first ↦ rw (first, strict.one_way x y first) refl
        | inr later ↦ rw (later, strict.either x y (grind (arith, nat_tests, new)) later) refl
      ]
