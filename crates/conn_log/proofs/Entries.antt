-- Lists of what is known of numbers, in the order of the numbers.
use Rattle.std.proofs.Common.{◌≡◌, ℕ, ◌<◌, Bool, true, false, not, List, [], ◌∷◌, ◌++◌, filter, Option, Some, None, refl, sym, ap, inl, inr, ◌∙◌, arith}
use Rattle.std.specs.Prelude.{◌==◌, nat_lt, if◌then◌else◌, cond}
use Rattle.std.specs.Option.{option_map, option_map_or}
use Rattle.std.specs.Ordering.{nat_cmp, is_eq}
use Rattle.std.specs.declared.cmp.Ordering.TheVariants.{Less, Equal, Greater}
use Rattle.std.specs.Cmp.{nat_cmp_is}
use Rattle.std.specs.BTreeMap.{insert_entry, is_at}
use Rattle.std.specs.Map.{keys_of, set_value, remove_entry}
use Rattle.std.proofs.lemmas.Map.{keys-set_value}
use Rattle.std.proofs.lemmas.Bool.Decides.{nat_tests, eqb_tells}
use mathlib.Core.Bool.{false≢true}
use Rattle.conn_log.specs.declared.base.OpenConnection.{OpenConnection}
use Rattle.conn_log.specs.Connections.{is_among}
use Rattle.conn_log.specs.Sound.{AreDistinct}
use Rattle.conn_log.specs.Bases.{known_in, changed}
use Rattle.conn_log.proofs.Sorted.{told}

abbrev Known : Type 0
Known = List (ℕ × OpenConnection)

-- a number is found by what it is
pub at_is : (c d : ℕ) → is_at (nat_cmp c) d ≡ (c == d)
at_is c d = by_test (nat_lt c d) (c == d) (λ below. grind (arith, nat_tests, below))
  where
    by_test : (below same : Bool) → (below ≡ true → same ≡ false) → is_eq (cond below Less (cond same Equal Greater)) ≡ same
    by_test true same apart = sym (apart refl)
    by_test false true apart = refl
    by_test false false apart = refl

-- what is not among the numbers is not known
pub unknown : (c : ℕ) (es : Known) → is_among c (keys_of es) ≡ false → known_in es c ≡ None
unknown c [] out = refl
unknown c (e ∷ es) out = rw (at_is c e.0) (elim (eqb_tells c e.0) [
  | inl same ↦ absurd (false≢true (sym out ∙ grind (arith, nat_tests, same.1)))
  | inr other ↦ rw other.0 (unknown c es (grind (arith, nat_tests, out, other.0)))
])

-- what is known before stays so beside what comes last
pub known_before : (c : ℕ) (es last : Known) (known : OpenConnection) → known_in es c ≡ Some known → known_in (es ++ last) c ≡ Some known
known_before c [] last known is = absurd (cc is)
known_before c (e ∷ es) last known is = elim (told (is_at (nat_cmp c) e.0)) [
  | inl here ↦ rw here (rw here at is)
  | inr elsewhere ↦ rw elsewhere (known_before c es last known (rw elsewhere at is))
]

pub known_last : (c : ℕ) (es : Known) (known : OpenConnection) → is_among c (keys_of es) ≡ false → known_in (es ++ (c, known) ∷ []) c ≡ Some known
known_last c [] known out = rw (at_is c c) (grind (arith, nat_tests))
known_last c (e ∷ es) known out = rw (at_is c e.0) (elim (eqb_tells c e.0) [
  | inl same ↦ absurd (false≢true (sym out ∙ grind (arith, nat_tests, same.1)))
  | inr other ↦ rw other.0 (known_last c es known (grind (arith, nat_tests, out, other.0)))
])

-- a number above all others comes last
pub insert_last : (c : ℕ) (known : OpenConnection) (es : Known) → ((d : ℕ) → is_among d (keys_of es) ≡ true → d < c) → insert_entry nat_cmp es c known ≡ es ++ (c, known) ∷ []
insert_last c known [] above = refl
insert_last c known (e ∷ es) above =
    let greater : nat_cmp c e.0 ≡ Greater = sym (nat_cmp_is c e.0 Greater (above e.0 (grind (arith, nat_tests)))) in
    rw greater (ap (λ rest. e ∷ rest) (insert_last c known es (λ d among. above d (grind (arith, nat_tests, among)))))

pub keys_last : (c : ℕ) (known : OpenConnection) (es : Known) → keys_of (es ++ (c, known) ∷ []) ≡ keys_of es ++ c ∷ []
keys_last c known [] = refl
keys_last c known (e ∷ es) = ap (λ rest. e.0 ∷ rest) (keys_last c known es)

-- one that has become another
module _ (change : OpenConnection → OpenConnection) (c : ℕ) where
  pub keys_changed : (es : Known) → keys_of (changed change c es) ≡ keys_of es
  keys_changed es = by_case (known_in es c)
    where
      by_case : (found : Option OpenConnection) → keys_of (option_map_or (λ (was : OpenConnection). set_value (is_at (nat_cmp c)) es (change was)) found es) ≡ keys_of es
      by_case None = refl
      by_case (Some was) = keys-set_value (is_at (nat_cmp c)) es (change was)

  later : (e : ℕ × OpenConnection) (es : Known) → is_at (nat_cmp c) e.0 ≡ false → changed change c (e ∷ es) ≡ e ∷ changed change c es
  later e es elsewhere = rw elsewhere (by_case (known_in es c))
    where
      by_case : (found : Option OpenConnection) → option_map_or (λ (was : OpenConnection). e ∷ set_value (is_at (nat_cmp c)) es (change was)) found (e ∷ es) ≡ e ∷ option_map_or (λ (was : OpenConnection). set_value (is_at (nat_cmp c)) es (change was)) found es
      by_case None = refl
      by_case (Some was) = refl

  pub known_changed : (es : Known) (d : ℕ) → known_in (changed change c es) d ≡ (if c == d then option_map change (known_in es d) else known_in es d)
  known_changed [] d = elim (told (c == d)) [ inl same ↦ rw same refl | inr other ↦ rw other refl ]
  known_changed (e ∷ es) d = elim (told (is_at (nat_cmp c) e.0)) [
    | inl here ↦ rw here (elim (eqb_tells c d) [
      | inl same ↦
          let found : is_at (nat_cmp d) e.0 ≡ true = ap (λ n. is_at (nat_cmp n) e.0) (sym same.1) ∙ here in
          rw (same.0, found) refl
      | inr other ↦
          let missed : is_at (nat_cmp d) e.0 ≡ false = at_is d e.0 ∙ grind (arith, nat_tests, other.0, sym (at_is c e.0) ∙ here) in
          rw (other.0, missed) refl
    ])
    | inr elsewhere ↦ ap (λ (xs : Known). known_in xs d) (later e es elsewhere) ∙ elim (told (is_at (nat_cmp d) e.0)) [
      | inl found ↦
          let other : (c == d) ≡ false = grind (arith, nat_tests, sym (at_is c e.0) ∙ elsewhere, sym (at_is d e.0) ∙ found) in
          rw (found, other) refl
      | inr missed ↦ rw missed (known_changed es d)
    ]
  ]

-- one that is taken out
pub without_one : (c : ℕ) (numbers : List ℕ) → is_among c numbers ≡ false → filter (λ d. not (c == d)) numbers ≡ numbers
without_one c [] out = refl
without_one c (d ∷ numbers) out =
    let other : (c == d) ≡ false = grind (arith, nat_tests, out) in
    rw other (ap (λ rest. d ∷ rest) (without_one c numbers (grind (arith, nat_tests, out))))

pub keys_removed : (c : ℕ) (es : Known) → AreDistinct (keys_of es) → keys_of (remove_entry (is_at (nat_cmp c)) es) ≡ filter (λ d. not (c == d)) (keys_of es)
keys_removed c [] once = refl
keys_removed c (e ∷ es) once = rw (at_is c e.0) (elim (eqb_tells c e.0) [
  | inl same ↦ rw same.0 (sym (without_one c (keys_of es) (ap (λ n. is_among n (keys_of es)) same.1 ∙ once.0)))
  | inr other ↦ rw other.0 (ap (λ rest. e.0 ∷ rest) (keys_removed c es once.1))
])

pub known_removed : (c d : ℕ) (es : Known) → (c == d) ≡ false → known_in (remove_entry (is_at (nat_cmp c)) es) d ≡ known_in es d
known_removed c d [] other = refl
known_removed c d (e ∷ es) other = elim (told (is_at (nat_cmp c) e.0)) [
  | inl here ↦
      let missed : is_at (nat_cmp d) e.0 ≡ false = at_is d e.0 ∙ grind (arith, nat_tests, other, sym (at_is c e.0) ∙ here) in
      rw (here, missed) refl
  | inr elsewhere ↦ rw elsewhere (elim (told (is_at (nat_cmp d) e.0)) [
    | inl found ↦ rw found refl
    | inr missed ↦ rw missed (known_removed c d es other)
  ])
]
