-- The order of buckets is that of their values.
use Rattle.std.proofs.Common.{◌≡◌, ◌⊎◌, ℕ, zero, suc, ◌+◌, ◌-◌, ◌^◌, ◌<◌, ◌≤◌, nat_le, nat_lt, sym, ap, subst, inl, inr, ◌∙◌, add-zero, arith}
use Rattle.std.proofs.lemmas.Bool.Decides.{nat_tests}
use Rattle.load_figures.specs.Buckets.{bucket_of, highest_of, lowest_of}
use Rattle.load_figures.proofs.BucketLemmas.{in_its_bucket, next_lowest}

-- later buckets have greater values
apart_by : (bucket more : ℕ) → highest_of bucket < lowest_of (suc bucket + more)
apart_by bucket zero = subst (λ (b : ℕ). highest_of bucket < lowest_of b) (sym (add-zero (suc bucket))) (omega (arith, next_lowest bucket))
apart_by bucket (suc more) =
    let before = apart_by bucket more in
    let follows : lowest_of (suc bucket + suc more) ≡ suc (highest_of (suc bucket + more)) = ap lowest_of (omega arith) ∙ next_lowest (suc bucket + more) in
    omega (arith, before, follows)

pub apart : (bucket other : ℕ) → bucket < other → highest_of bucket < lowest_of other
apart bucket other later = subst (λ (b : ℕ). highest_of bucket < lowest_of b) (omega arith) (apart_by bucket (other - suc bucket))

order : (m n : ℕ) → (m < n) ⊎ (n ≤ m)
order m n = search arith

-- a value's bucket is below another exactly where the value is below the values there
pub below : (value bucket : ℕ) → value < 2 ^ 64 → nat_lt (bucket_of value) bucket ≡ nat_lt value (lowest_of bucket)
below value bucket fits =
    let is_in = in_its_bucket value fits in
    elim (order (bucket_of value) bucket) [
      | inl less ↦
          let value_less : value < lowest_of bucket = omega (arith, is_in.highest, apart (bucket_of value) bucket less) in
          grind (arith, nat_tests)
      | inr not_less ↦ elim (order bucket (bucket_of value)) [
        | inl more ↦
            let value_more : lowest_of bucket ≤ value = omega (arith, is_in.lowest, apart bucket (bucket_of value) more) in
            grind (arith, nat_tests)
        | inr not_more ↦
            let same : bucket ≡ bucket_of value = omega arith in
            let value_more : lowest_of bucket ≤ value = subst (λ (b : ℕ). lowest_of b ≤ value) (sym same) is_in.lowest in
            grind (arith, nat_tests)
      ]
    ]

-- it is up to a bucket exactly where the value is at most the greatest there
pub up_to : (value bucket : ℕ) → value < 2 ^ 64 → nat_lt (bucket_of value) (suc bucket) ≡ nat_le value (highest_of bucket)
up_to value bucket fits =
    let lower : nat_lt value (lowest_of (suc bucket)) ≡ nat_lt value (suc (highest_of bucket)) = ap (nat_lt value) (next_lowest bucket) in
    below value (suc bucket) fits ∙ lower ∙ grind (arith, nat_tests)
