-- The first place at which a test passes, in a list of other values, with one more, and with one changed.
use Rattle.std.proofs.Common.{◌≡◌, ℕ, ◌+◌, ◌<◌, ◌≤◌, Bool, true, false, cond, not, List, [], ◌∷◌, ◌++◌, length, map, get_or, nat_lt, Some, None, refl, ap, ◌∙◌, arith, length-set, get_or-set_same, get_or-set_other}
use Rattle.std.specs.List.{position, position_or_len, prefix_len, list_any}
use Rattle.std.specs.Prelude.{slice_set}
use Rattle.std.proofs.lemmas.Bool.Decides.{nat_tests}
use Rattle.std.proofs.lemmas.List.{length-map, get_or_append_left, get_or_push, length_push}
use Rattle.std.proofs.lemmas.List.Folds.{list_any_none}
use Rattle.std.proofs.lemmas.List.Elements.{All-from_get_or}
use Rattle.std.proofs.lemmas.List.Sums.{fails_before_first, position_or_len_is}

prefix_len-map : {X Y : Type 0} (q : Y → Bool) (f : X → Y) (xs : List X) → prefix_len q (map f xs) ≡ prefix_len (λ x. q (f x)) xs
prefix_len-map q f [] = refl
prefix_len-map q f (x ∷ xs) = ap (λ (n : ℕ). cond (q (f x)) (1 + n) 0) (prefix_len-map q f xs)

pub position-map : {X Y : Type 0} (p : Y → Bool) (f : X → Y) (xs : List X) → position p (map f xs) ≡ position (λ x. p (f x)) xs
position-map p f xs =
    ap (λ (n : ℕ). cond (nat_lt n (length (map f xs))) (Some n) None) (prefix_len-map (λ y. not (p y)) f xs)
    ∙ ap (λ (m : ℕ). cond (nat_lt (position_or_len (λ x. p (f x)) xs) m) (Some (position_or_len (λ x. p (f x)) xs)) None) (length-map xs f)

-- what a place that was found, or not found, tells of the number
at_most : (b : Bool) (n : ℕ) → cond b (Some n) None ≡ None → b ≡ false
at_most true n none = cc
at_most false n none = refl

found_at : (n len i : ℕ) → n ≡ i → i < len → cond (nat_lt n len) (Some n) None ≡ Some i
found_at n len i is there =
    let test : nat_lt n len ≡ true = grind (arith, nat_tests) in
    ap (λ (b : Bool). cond b (Some n) None) test ∙ ap Some is

-- none passes
pub none_passes : {X : Type 0} (p : X → Bool) (xs : List X) → position p xs ≡ None → (k : ℕ) (d : X) → k < length xs → p (get_or xs k d) ≡ false
none_passes p xs none k d there =
    let test : nat_lt (position_or_len p xs) (length xs) ≡ false = at_most (nat_lt (position_or_len p xs) (length xs)) (position_or_len p xs) none in
    let all : length xs ≤ position_or_len p xs = grind (arith, nat_tests) in
    fails_before_first p xs k d (omega (arith, all))

pub none_at_all : {X : Type 0} (p : X → Bool) (xs : List X) → position p xs ≡ None → list_any p xs ≡ false
none_at_all p [] none = refl
none_at_all p (x ∷ xs) none = list_any_none p (x ∷ xs) (All-from_get_or (λ y. p y ≡ false) (x ∷ xs) x (λ k there. none_passes p (x ∷ xs) none k x there))

pub position_push : {X : Type 0} (p : X → Bool) (xs : List X) (y : X) → position p xs ≡ None → p y ≡ true → position p (xs ++ y ∷ []) ≡ Some (length xs)
position_push p xs y none passes =
    found_at (position_or_len p (xs ++ y ∷ [])) (length (xs ++ y ∷ [])) (length xs)
    (position_or_len_is p (xs ++ y ∷ []) (length xs) y (omega (arith, length_push xs y))
    (λ k below. ap p (get_or_append_left xs (y ∷ []) y k below) ∙ none_passes p xs none k y below)
    (λ there. ap p (get_or_push xs y y (length xs) refl) ∙ passes))
    (omega (arith, length_push xs y))

pub position_set : {X : Type 0} (p : X → Bool) (xs : List X) (i : ℕ) (y : X) → position p xs ≡ None → p y ≡ true → i < length xs → position p (slice_set xs i y) ≡ Some i
position_set p xs i y none passes there =
    found_at (position_or_len p (slice_set xs i y)) (length (slice_set xs i y)) i
    (position_or_len_is p (slice_set xs i y) i y (omega (arith, length-set xs i y))
    (λ k below. ap p (get_or-set_other xs i k y y (λ e. omega (arith, e))) ∙ none_passes p xs none k y (omega arith))
    (λ _. ap p (get_or-set_same xs i y y there) ∙ passes))
    (omega (arith, length-set xs i y))
