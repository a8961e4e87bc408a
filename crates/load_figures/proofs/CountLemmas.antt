-- Counts after a value is recorded, and sums of counts.
use Rattle.std.proofs.Common.{◌≡◌, ℕ, zero, suc, ◌+◌, ◌<◌, Bool, cond, List, [], ◌∷◌, length, slice_index, slice_set, sum, take, replicate, refl, sym, ap, ◌∙◌, arith, zero-add}
use Rattle.std.specs.List.{count_by, All}
use Rattle.std.proofs.lemmas.List.Sums.{sum_by-cons}
use Rattle.std.proofs.lemmas.List.Elements.{All-head, All-tail}
use Rattle.load_figures.specs.Tally.{sums, IsKept}

pub sum-cons : (x : ℕ) (xs : List ℕ) → sum (x ∷ xs) ≡ x + sum xs
sum-cons x xs = sum_by-cons (λ (n : ℕ). n) x xs

pub count-cons : (p : ℕ → Bool) (x : ℕ) (xs : List ℕ) → count_by p (x ∷ xs) ≡ cond (p x) 1 0 + count_by p xs
count-cons p x xs = sum_by-cons (λ (n : ℕ). cond (p n) 1 0) x xs

-- one more at a place
abbrev pub more_at : List ℕ → ℕ → List ℕ
more_at xs place = slice_set xs place (slice_index xs place + 1)

-- the sum of the first ones, if that place is one of them, and if it is not
pub sum_take-more_at : (xs : List ℕ) (n place : ℕ) → place < n → place < length xs → sum (take n (more_at xs place)) ≡ sum (take n xs) + 1
sum_take-more_at [] n place below there = absurd (omega arith)
sum_take-more_at (x ∷ xs) zero place below there = absurd (omega arith)
sum_take-more_at (x ∷ xs) (suc n) zero below there = omega (arith, sum-cons (x + 1) (take n xs), sum-cons x (take n xs))
sum_take-more_at (x ∷ xs) (suc n) (suc place) below there =
    omega (arith, sum-cons x (take n (more_at xs place)), sum-cons x (take n xs), sum_take-more_at xs n place (omega arith) (omega arith))

pub sum-more_at : (xs : List ℕ) (place : ℕ) → place < length xs → sum (more_at xs place) ≡ sum xs + 1
sum-more_at [] place there = absurd (omega arith)
sum-more_at (x ∷ xs) zero there = omega (arith, sum-cons (x + 1) xs, sum-cons x xs)
sum-more_at (x ∷ xs) (suc place) there = omega (arith, sum-cons x (more_at xs place), sum-cons x xs, sum-more_at xs place (omega arith))

-- sums of nothing
pub sum-replicate : (n : ℕ) → sum (replicate n 0) ≡ 0
sum-replicate zero = refl
sum-replicate (suc n) = omega (arith, sum-cons 0 (replicate n 0), sum-replicate n)

pub sum_take-replicate : (n m : ℕ) → sum (take n (replicate m 0)) ≡ 0
sum_take-replicate zero m = refl
sum_take-replicate (suc n) zero = refl
sum_take-replicate (suc n) (suc m) = omega (arith, sum-cons 0 (take n (replicate m 0)), sum_take-replicate n m)

-- ---- sums, place by place

pub length-sums : (xs ys : List ℕ) → length xs ≡ length ys → length (sums xs ys) ≡ length xs
length-sums [] ys same = refl
length-sums (x ∷ xs) [] same = absurd (omega arith)
length-sums (x ∷ xs) (y ∷ ys) same = ap suc (length-sums xs ys (omega arith))

pub sum-sums : (xs ys : List ℕ) → length xs ≡ length ys → sum (sums xs ys) ≡ sum xs + sum ys
sum-sums [] [] same = refl
sum-sums [] (y ∷ ys) same = absurd (omega arith)
sum-sums (x ∷ xs) [] same = absurd (omega arith)
sum-sums (x ∷ xs) (y ∷ ys) same = omega (arith, sum-cons (x + y) (sums xs ys), sum-cons x xs, sum-cons y ys, sum-sums xs ys (omega arith))

pub sums-none : (n : ℕ) (ys : List ℕ) → length ys ≡ n → sums (replicate n 0) ys ≡ ys
sums-none zero [] same = refl
sums-none zero (y ∷ ys) same = absurd (omega arith)
sums-none (suc n) [] same = absurd (omega arith)
sums-none (suc n) (y ∷ ys) same =
    ap (λ (first : ℕ). first ∷ sums (replicate n 0) ys) (zero-add y) ∙ ap (λ (zs : List ℕ). y ∷ zs) (sums-none n ys (omega arith))

pub sums-more_at : (xs ys : List ℕ) (place : ℕ) → length xs ≡ length ys → sums (more_at xs place) ys ≡ more_at (sums xs ys) place
sums-more_at [] ys place same = refl
sums-more_at (x ∷ xs) [] place same = absurd (omega arith)
sums-more_at (x ∷ xs) (y ∷ ys) zero same = ap (λ (n : ℕ). n ∷ sums xs ys) (omega arith)
sums-more_at (x ∷ xs) (y ∷ ys) (suc place) same = ap (λ (zs : List ℕ). (x + y) ∷ zs) (sums-more_at xs ys place (omega arith))

-- the fields of two histograms, added
pub kept_added : (xs ys : List ℕ) (values others total more : ℕ) → IsKept xs values total → IsKept ys others more → IsKept (sums xs ys) (values + others) (total + more)
kept_added xs ys values others total more kept its =
    let same : length xs ≡ length ys = kept.size ∙ sym its.size in
    record {
      size = length-sums xs ys same ∙ kept.size;
      values_are = omega (arith, sum-sums xs ys same, kept.values_are, its.values_are);
      total_fits = omega (arith, kept.total_fits, its.total_fits);
    }

-- the sums at the first places, and the list's own numbers at the others
abbrev pub sums_up_to : ℕ → List ℕ → List ℕ → List ℕ
sums_up_to zero xs ys = xs
sums_up_to (suc n) [] ys = []
sums_up_to (suc n) (x ∷ xs) [] = x ∷ xs
sums_up_to (suc n) (x ∷ xs) (y ∷ ys) = (x + y) ∷ sums_up_to n xs ys

pub length-sums_up_to : (n : ℕ) (xs ys : List ℕ) → length (sums_up_to n xs ys) ≡ length xs
length-sums_up_to zero xs ys = refl
length-sums_up_to (suc n) [] ys = refl
length-sums_up_to (suc n) (x ∷ xs) [] = refl
length-sums_up_to (suc n) (x ∷ xs) (y ∷ ys) = ap suc (length-sums_up_to n xs ys)

pub sums_up_to-all : (n : ℕ) (xs ys : List ℕ) → length xs ≡ n → length ys ≡ n → sums_up_to n xs ys ≡ sums xs ys
sums_up_to-all zero [] ys xs_size ys_size = refl
sums_up_to-all zero (x ∷ xs) ys xs_size ys_size = absurd (omega arith)
sums_up_to-all (suc n) [] ys xs_size ys_size = refl
sums_up_to-all (suc n) (x ∷ xs) [] xs_size ys_size = absurd (omega arith)
sums_up_to-all (suc n) (x ∷ xs) (y ∷ ys) xs_size ys_size = ap (λ (zs : List ℕ). (x + y) ∷ zs) (sums_up_to-all n xs ys (omega arith) (omega arith))

-- what stands at the next place
pub sums_up_to-here : (n : ℕ) (xs ys : List ℕ) → slice_index (sums_up_to n xs ys) n ≡ slice_index xs n
sums_up_to-here zero xs ys = refl
sums_up_to-here (suc n) [] ys = refl
sums_up_to-here (suc n) (x ∷ xs) [] = refl
sums_up_to-here (suc n) (x ∷ xs) (y ∷ ys) = sums_up_to-here n xs ys

pub sums_up_to-more : (n : ℕ) (xs ys : List ℕ) → n < length xs → n < length ys
    → slice_set (sums_up_to n xs ys) n (slice_index xs n + slice_index ys n) ≡ sums_up_to (suc n) xs ys
sums_up_to-more n [] ys xs_there ys_there = absurd (omega arith)
sums_up_to-more n (x ∷ xs) [] xs_there ys_there = absurd (omega arith)
sums_up_to-more zero (x ∷ xs) (y ∷ ys) xs_there ys_there = refl
sums_up_to-more (suc n) (x ∷ xs) (y ∷ ys) xs_there ys_there = ap (λ (zs : List ℕ). (x + y) ∷ zs) (sums_up_to-more n xs ys (omega arith) (omega arith))

-- two tests that agree on all values count the same
pub count-same : (p q : ℕ → Bool) (xs : List ℕ) → All (λ x. p x ≡ q x) xs → count_by p xs ≡ count_by q xs
count-same p q [] same = refl
count-same p q (x ∷ xs) same =
    count-cons p x xs
    ∙ ap (λ (b : Bool). cond b 1 0 + count_by p xs) (All-head (λ y. p y ≡ q y) x xs same)
    ∙ ap (λ (n : ℕ). cond (q x) 1 0 + n) (count-same p q xs (All-tail (λ y. p y ≡ q y) x xs same))
    ∙ sym (count-cons q x xs)
