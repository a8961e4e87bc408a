-- Lists of numbers of which each stands once, and filters of them.
use Rattle.std.proofs.Common.{◌≡◌, ℕ, ◌+◌, ◌≤◌, Bool, true, false, ◌&&◌, List, [], ◌∷◌, length, filter, refl, sym, ap, subst, inl, inr, ◌∙◌, arith}
use mathlib.Core.Bool.{false≢true}
use Rattle.std.specs.Prelude.{◌==◌}
use Rattle.std.proofs.lemmas.Bool.Decides.{nat_tests, eqb_tells}
use Rattle.conn_log.specs.Connections.{is_among, greatest}
use Rattle.conn_log.specs.Sound.{AreDistinct}

-- among those that pass: among all, and it passes
pub is_among-filter : (p : ℕ → Bool) (c : ℕ) (xs : List ℕ) → is_among c (filter p xs) ≡ (is_among c xs && p c)
is_among-filter p c [] = refl
is_among-filter p c (x ∷ xs) = grind (arith, nat_tests, is_among-filter p c xs, λ (e : x ≡ c). ap p e)

-- two tests that agree on all numbers of a list
pub filter_agree : (p q : ℕ → Bool) (xs : List ℕ) → ((c : ℕ) → is_among c xs ≡ true → p c ≡ q c) → filter p xs ≡ filter q xs
filter_agree p q [] agree = refl
filter_agree p q (x ∷ xs) agree =
    let here : p x ≡ q x = agree x (grind (arith, nat_tests)) in
    let rest = filter_agree p q xs (λ c among. agree c (grind (arith, nat_tests))) in
    grind (arith, here, rest)

-- a number that is not among these differs from one that is
pub parted : (c d : ℕ) (xs : List ℕ) → is_among c xs ≡ false → is_among d xs ≡ true → (c == d) ≡ false
parted c d xs out among = elim (eqb_tells c d) [
  | inl same ↦ absurd (false≢true (sym out ∙ ap (λ (y : ℕ). is_among y xs) same.1 ∙ among))
  | inr other ↦ other.0
]

-- one number fewer passes, where the tests part at one number alone
pub length-filter_flip : (p q : ℕ → Bool) (c : ℕ) (xs : List ℕ) → AreDistinct xs → is_among c xs ≡ true → p c ≡ true → q c ≡ false → ((d : ℕ) → (c == d) ≡ false → p d ≡ q d) → length (filter p xs) ≡ length (filter q xs) + 1
length-filter_flip p q c [] distinct among passes fails others = grind arith
length-filter_flip p q c (x ∷ xs) distinct among passes fails others = elim (eqb_tells x c) [
  | inl here ↦
      let gone : is_among c xs ≡ false = subst (λ (y : ℕ). is_among y xs ≡ false) here.1 distinct.0 in
      let px : p x ≡ true = ap p here.1 ∙ passes in
      let qx : q x ≡ false = ap q here.1 ∙ fails in
      let same : filter p xs ≡ filter q xs = filter_agree p q xs (λ d there. others d (parted c d xs gone there)) in
      rw (px, qx) (omega (arith, ap length same))
  | inr elsewhere ↦
      let px : p x ≡ q x = others x (grind (arith, nat_tests, elsewhere.1)) in
      let there : is_among c xs ≡ true = grind (arith, nat_tests, elsewhere.0) in
      let rest = length-filter_flip p q c xs distinct.1 there passes fails others in
      grind (arith, px, rest)
]

-- no number is above the greatest
pub le-greatest : (first c : ℕ) (xs : List ℕ) → is_among c xs ≡ true → c ≤ greatest first xs
le-greatest first c [] among = grind arith
le-greatest first c (x ∷ xs) among = grind (arith, nat_tests, λ (h : is_among c xs ≡ true). le-greatest first c xs h)
