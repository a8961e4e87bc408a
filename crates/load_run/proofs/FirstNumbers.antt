-- A list that has each of the first numbers once, and no other number, is as long as there are numbers.
use Rattle.std.proofs.Common.{◌≡◌, ◌∙◌, ◌+◌, ◌≤◌, ◌==◌, ℕ, zero, suc, List, [], ◌∷◌, cond, length, nat_lt, refl, sym, arith}
use Rattle.std.proofs.lemmas.Bool.Decides.{nat_tests}
use Rattle.std.proofs.lemmas.List.Sums.{sum_by-cons}
use Rattle.run_loop.specs.Draws.{AreFirst, times}

times_more : (n x : ℕ) (xs : List ℕ) → times n (x ∷ xs) ≡ cond (n == x) 1 0 + times n xs
times_more n x xs = sum_by-cons (λ m. cond (n == m) 1 0) x xs

-- number of occurrences of the numbers below a limit in a list
times_below : ℕ → List ℕ → ℕ
times_below zero numbers = 0
times_below (suc limit) numbers = times limit numbers + times_below limit numbers

none_at : (numbers : List ℕ) → times_below 0 numbers ≡ 0
unfolding times_below
none_at numbers = refl

one_more : (limit : ℕ) (numbers : List ℕ) → times_below (suc limit) numbers ≡ times limit numbers + times_below limit numbers
unfolding times_below
one_more limit numbers = refl

below_more : (limit x : ℕ) (xs : List ℕ) → times_below limit (x ∷ xs) ≡ cond (nat_lt x limit) 1 0 + times_below limit xs
below_more zero x xs =
    let all = none_at (x ∷ xs) in
    let rest = none_at xs in
    grind (arith, nat_tests)
below_more (suc limit) x xs =
    let all = one_more limit (x ∷ xs) in
    let others = one_more limit xs in
    let one = times_more limit x xs in
    let rest = below_more limit x xs in
    grind (arith, nat_tests)

none_below : (limit : ℕ) → times_below limit [] ≡ 0
none_below zero = none_at []
none_below (suc limit) =
    let all = one_more limit [] in
    let rest = none_below limit in
    omega (arith, all, rest)

all_below : (limit : ℕ) (numbers : List ℕ) → ((n : ℕ) → limit ≤ n → times n numbers ≡ 0) → times_below limit numbers ≡ length numbers
all_below limit [] none = none_below limit
all_below limit (x ∷ xs) none =
    let rest = all_below limit xs (λ n past. let more = times_more n x xs in let zero = none n past in omega (arith, more, zero)) in
    let own = times_more x x xs in
    let more = below_more limit x xs in
    let past = none x in
    grind (arith, nat_tests)

first_below : (limit count : ℕ) (numbers : List ℕ) → AreFirst count numbers → limit ≤ count → times_below limit numbers ≡ limit
first_below zero count numbers first within = none_at numbers
first_below (suc limit) count numbers first within =
    let all = one_more limit numbers in
    let rest = first_below limit count numbers first (omega (arith, within)) in
    let own = first limit in
    grind (arith, nat_tests)

pub length_first : (count : ℕ) (numbers : List ℕ) → AreFirst count numbers → length numbers ≡ count
length_first count numbers first =
    sym (all_below count numbers (λ n past. let own = first n in grind (arith, nat_tests))) ∙ first_below count count numbers first (omega arith)
