-- How often a number stands in a list.
use Rattle.std.proofs.Common.{◌≡◌, refl, ℕ, ◌+◌, ◌<◌, ◌==◌, List, [], ◌∷◌, ◌++◌, arith}
use Rattle.std.specs.List.{All}
use Rattle.std.proofs.lemmas.List.Elements.{All-head, All-tail, All-cons, All-nil}
use Rattle.std.proofs.lemmas.List.Sums.{sum_by-append}
use Rattle.std.proofs.lemmas.Bool.Decides.{nat_tests}
use Rattle.budget.proofs.Sums.{one_if}
use Rattle.run_loop.specs.Draws.{times}

pub times_both : (k : ℕ) (some more : List ℕ) → times k (some ++ more) ≡ times k some + times k more
times_both k some more = sum_by-append (λ n. one_if (k == n)) some more

pub times_cons : (k n : ℕ) (more : List ℕ) → times k (n ∷ more) ≡ times k (n ∷ []) + times k more
times_cons k n more = times_both k (n ∷ []) more

pub times_itself : (n : ℕ) → times n (n ∷ []) ≡ 1
times_itself n = grind (arith, nat_tests)

pub times_other : (k n : ℕ) → (k ≡ n → ⊥) → times k (n ∷ []) ≡ 0
times_other k n apart = grind (arith, nat_tests)

-- a number that does not stand there is not the first one
pub not_first : (k n : ℕ) → times k (n ∷ []) ≡ 0 → n ≡ k → ⊥
not_first k n none same = grind (arith, nat_tests)

-- a number above all others does not stand among them
pub none_above : (n : ℕ) (numbers : List ℕ) → All (λ k. k < n) numbers → times n numbers ≡ 0
none_above n [] above = refl
none_above n (k ∷ numbers) above =
    let below : k < n = All-head (λ k. k < n) k numbers above in
    let rest = none_above n numbers (All-tail (λ k. k < n) k numbers above) in
    let first : times n (k ∷ []) ≡ 0 = times_other n k (omega arith) in
    let both = times_cons n k numbers in
    omega (arith, first, rest, both)

-- what holds of each of two lists together, holds of each of both
pub split_all : {X : Type 0} (P : X → Type 0) (some more : List X) → All P (some ++ more) → All P some × All P more
split_all P [] more each = (All-nil P, each)
split_all P (x ∷ some) more each =
    let rest = split_all P some more (All-tail P x (some ++ more) each) in
    (All-cons P x some (All-head P x (some ++ more) each) rest.0, rest.1)
