-- Sums and counts over the views of all seats, as one seat's view changes, is cut in two or takes in another's.
use Rattle.std.proofs.Common.{◌≡◌, ℕ, zero, suc, ◌+◌, ◌≤◌, Bool, true, false, cond, List, [], ◌∷◌, ◌++◌, length, get_or, set, sym, refl, ap, ◌∙◌, subst, arith, get_or-set_same}
use mathlib.Core.Option.{some, some-injective, some-ne-none}
use lib.ListN.{get_elem?}
use Rattle.std.specs.Prelude.{count_by}
use Rattle.std.specs.List.{sum_by, All}
use Rattle.std.proofs.lemmas.List.Sums.{sum_by-cons, sum_by_push, get_or-le-sum_by}
use Rattle.std.proofs.lemmas.List.Elements.{All-head, All-tail}

module _ {V : Type 0} (f : V → ℕ) where
  -- a view is set
  pub sum-set : (views : List V) (seat : ℕ) (v w : V) → get_elem? views seat ≡ some v → sum_by f (set views seat w) + f v ≡ sum_by f views + f w
  sum-set [] seat v w at = absurd (some-ne-none v (sym at))
  sum-set (x ∷ xs) zero v w at =
      let is : f x ≡ f v = ap f (some-injective x v at) in
      omega (arith, sum_by-cons f w xs, sum_by-cons f x xs)
  sum-set (x ∷ xs) (suc seat) v w at =
      omega (arith, sum-set xs seat v w at, sum_by-cons f x xs, sum_by-cons f x (set xs seat w))

  -- a view is cut in two
  pub sum-cut : (views : List V) (seat : ℕ) (v w new : V) → get_elem? views seat ≡ some v → f w + f new ≡ f v → sum_by f views ≡ sum_by f (set views seat w ++ new ∷ [])
  sum-cut views seat v w new at same = omega (arith, same, sum-set views seat v w at, sum_by_push f (set views seat w) new)

  -- a view takes in another
  pub sum-join : (views : List V) (seat : ℕ) (v : V) (other : ℕ) (w both spent : V) → get_elem? views seat ≡ some v → get_elem? (set views seat both) other ≡ some w → f both + f spent ≡ f v + f w
      → sum_by f views ≡ sum_by f (set (set views seat both) other spent)
  sum-join views seat v other w both spent at there same = omega (arith, same, sum-set views seat v both at, sum-set (set views seat both) other w spent there)

  -- the one word is the sum, and changes as a view does
  pub word-set : (words : List ℕ) (views : List V) (seat n : ℕ) (v w : V) → length words ≡ 1 → get_or words 0 0 ≡ sum_by f views → get_elem? views seat ≡ some v → n + f v ≡ get_or words 0 0 + f w
      → get_or (set words 0 n) 0 0 ≡ sum_by f (set views seat w)
  word-set words views seat n v w one is at same = get_or-set_same words 0 n 0 (omega (arith, one)) ∙ omega (arith, is, same, sum-set views seat v w at)

  -- one seat's number is part of the sum
  pub at-le-sum : (views : List V) (seat : ℕ) (v : V) → get_elem? views seat ≡ some v → f v ≤ sum_by f views
  at-le-sum [] seat v at = absurd (some-ne-none v (sym at))
  at-le-sum (x ∷ xs) zero v at =
      let is : f x ≡ f v = ap f (some-injective x v at) in
      omega (arith, sum_by-cons f x xs)
  at-le-sum (x ∷ xs) (suc seat) v at = omega (arith, at-le-sum xs seat v at, sum_by-cons f x xs)

-- where who has none of g has none of f: no g, no f; and who has all of g has all of f
module _ {V : Type 0} (g f : V → ℕ) where
  pub none : (views : List V) → ((seat : ℕ) (v : V) → get_elem? views seat ≡ some v → g v ≡ 0 → f v ≡ 0) → sum_by g views ≡ 0 → sum_by f views ≡ 0
  none [] holders empty = refl
  none (x ∷ xs) holders empty =
      let nothing : g x ≡ 0 = omega (arith, sum_by-cons g x xs) in
      let rest : sum_by g xs ≡ 0 = omega (arith, sum_by-cons g x xs) in
      omega (arith, holders 0 x refl nothing, none xs (λ seat. holders (suc seat)) rest, sum_by-cons f x xs)

  pub only : (views : List V) (seat : ℕ) (v : V) → get_elem? views seat ≡ some v → ((other : ℕ) (w : V) → get_elem? views other ≡ some w → g w ≡ 0 → f w ≡ 0) → sum_by g views ≡ g v
      → sum_by f views ≡ f v
  only [] seat v at holders all = absurd (some-ne-none v (sym at))
  only (x ∷ xs) zero v at holders all =
      let is : g x ≡ g v = ap g (some-injective x v at) in
      let same : f x ≡ f v = ap f (some-injective x v at) in
      let rest : sum_by g xs ≡ 0 = omega (arith, sum_by-cons g x xs) in
      omega (arith, none xs (λ other. holders (suc other)) rest, sum_by-cons f x xs)
  only (x ∷ xs) (suc seat) v at holders all =
      let most = at-le-sum g xs seat v at in
      let nothing : g x ≡ 0 = omega (arith, sum_by-cons g x xs) in
      let rest : sum_by g xs ≡ g v = omega (arith, sum_by-cons g x xs) in
      omega (arith, holders 0 x refl nothing, only xs seat v at (λ other. holders (suc other)) rest, sum_by-cons f x xs)

-- counts are sums of this
abbrev pub one_if : Bool → ℕ
one_if b = cond b 1 0

pub one_if_le : (b : Bool) → one_if b ≤ 1
one_if_le true = omega arith
one_if_le false = omega arith

fails : (b : Bool) → one_if b ≡ 0 → b ≡ false
fails true e = absurd (omega arith)
fails false e = refl

module _ {V : Type 0} (p : V → Bool) where
  -- where none is counted, each one fails
  pub uncounted : (views : List V) → count_by p views ≡ 0 → All (λ v. p v ≡ false) views
  uncounted views empty k d there = fails (p (get_or views k d)) (omega (arith, get_or-le-sum_by (λ v. one_if (p v)) views k d there))

  -- the only one of a kind has all that no other kind has
  pub only_of_kind : (f : V → ℕ) (views : List V) (seat : ℕ) (v : V) → count_by p views ≡ 1 → get_elem? views seat ≡ some v → p v ≡ true → ((u : V) → p u ≡ false → f u ≡ 0) → sum_by f views ≡ f v
  only_of_kind f views seat v one at is others = only (λ u. one_if (p u)) f views seat v at (λ _ u _ not. others u (fails (p u) not)) (one ∙ sym (ap one_if is))

-- what holds of each view holds of one
pub at_all : {V : Type 0} (P : V → Type 0) (views : List V) (seat : ℕ) (v : V) → get_elem? views seat ≡ some v → All P views → P v
at_all P [] seat v at all = absurd (some-ne-none v (sym at))
at_all P (x ∷ xs) zero v at all = subst P (some-injective x v at) (All-head P x xs all)
at_all P (x ∷ xs) (suc seat) v at all = at_all P xs seat v at (All-tail P x xs all)
