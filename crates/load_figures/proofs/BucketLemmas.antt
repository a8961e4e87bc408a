-- Each value is in its bucket, and the buckets follow one another without a gap.
use Rattle.std.proofs.Common.{◌≡◌, ◌⊎◌, ℕ, zero, suc, ◌+◌, ◌-◌, ◌*◌, ◌/◌, ◌%◌, ◌^◌, ◌<◌, ◌≤◌, refl, sym, ap, subst, inl, inr, ◌∙◌, arith}
use Rattle.std.proofs.Math.Nat.{pow-suc, pow-le-pow_right, mul-le-mul_right}
use Rattle.std.proofs.lemmas.Nat.{one_shl, pow_pos, pow-add, shl_whole, shr_le, shr_split, le-div, div_below, mod_below, leading_top}
use Rattle.std.specs.Int.{w64, leading_zeros}
use lib.Count.{leading_of_zero}
use Rattle.load_figures.specs.Buckets.{bits_untold, bits_untold_in, bucket_of, highest_of, lowest_of, width_of, IsIn}
use Rattle.load_figures.specs.Laws.{ValuesAreInTheirBuckets, BucketsAreApart, BucketsAreNarrow}

-- so many last bits are cut from a value that its leading 8 bits stay
pub record IsCut (value bits : ℕ) : Type 0 where
  pub few : bits ≤ 56
  pub short : value / 2 ^ bits < 256
  pub full : 0 < bits → 128 ≤ value / 2 ^ bits

cut_none : (value bits : ℕ) → bits ≡ 0 → value < 256 → IsCut value bits
cut_none value bits none short = record {
  few = omega arith;
  short = omega (arith, shr_le value bits);
  full = λ some. absurd (omega arith);
}

cut_some : (value bits j : ℕ) → bits ≤ 56 → j ≡ bits + 7 → 2 ^ j ≤ value → value < 2 ^ suc j → IsCut value bits
cut_some value bits j few is low high =
    let low_is : 2 ^ j ≡ 2 ^ bits * 2 ^ 7 = ap (λ (n : ℕ). 2 ^ n) is ∙ pow-add 2 bits 7 in
    let next : suc j ≡ bits + 8 = omega arith in
    let high_is : 2 ^ suc j ≡ 2 ^ bits * 2 ^ 8 = ap (λ (n : ℕ). 2 ^ n) next ∙ pow-add 2 bits 8 in
    record {
      few = few;
      short = div_below value (2 ^ bits) 256 (pow_pos bits) (omega (arith, high_is));
      full = λ some. le-div 128 value (2 ^ bits) (pow_pos bits) (omega (arith, low_is));
    }

within : (m n : ℕ) → (m < n) ⊎ (n ≤ m)
within m n = search arith

pow_mono : (j k : ℕ) → j ≤ k → 2 ^ j ≤ 2 ^ k
pow_mono j k le = pow-le-pow_right {n = 2} (omega arith) le

cut_at : (value zeros j : ℕ) → zeros + suc j ≡ 64 → 2 ^ j ≤ value → value < 2 ^ suc j → IsCut value (56 - zeros)
cut_at value zeros j all low high = elim (within j 8) [
  | inl small ↦ cut_none value (56 - zeros) (omega arith) (omega (arith, pow_mono (suc j) 8 (omega arith)))
  | inr large ↦ cut_some value (56 - zeros) j (omega arith) (omega arith) low high
]

cut : (value : ℕ) → value < 2 ^ 64 → IsCut value (bits_untold value)
cut zero fits = cut_none 0 (56 - leading_zeros w64 0) (ap (λ (n : ℕ). 56 - n) (leading_of_zero 64)) (omega arith)
cut (suc n) fits =
    let top = leading_top 64 (suc n) (omega arith) fits in
    cut_at (suc n) (leading_zeros w64 (suc n)) top.0 top.1 top.2 top.3

-- what a bucket tells of its number
untold_in : (bucket bits lead : ℕ) → bucket ≡ 128 * bits + lead → lead < 256 → (0 < bits → 128 ≤ lead) → bits_untold_in bucket ≡ bits
untold_in bucket bits lead is short full = elim (within 0 bits) [
  | inl some ↦ omega (arith, full some)
  | inr none ↦ omega arith
]

in_bucket : (value bits bucket : ℕ) → bucket ≡ 128 * bits + value / 2 ^ bits → IsCut value bits → IsIn bucket value
in_bucket value bits bucket is cut =
    let bits_are : bits_untold_in bucket ≡ bits = untold_in bucket bits (value / 2 ^ bits) is cut.short cut.full in
    let lead_is : bucket - 128 * bits_untold_in bucket ≡ value / 2 ^ bits = omega (arith, bits_are) in
    let lowest_is : lowest_of bucket ≡ value / 2 ^ bits * 2 ^ bits = ap (λ (n : ℕ). n * width_of bucket) lead_is ∙ ap (λ (n : ℕ). value / 2 ^ bits * 2 ^ n) bits_are in
    let width_is : width_of bucket ≡ 2 ^ bits = ap (λ (n : ℕ). 2 ^ n) bits_are in
    let split : value / 2 ^ bits * 2 ^ bits + value % 2 ^ bits ≡ value = shr_split value bits in
    let below : value % 2 ^ bits < 2 ^ bits = mod_below value (2 ^ bits) (pow_pos bits) in
    record {
      there = omega (arith, cut.few, cut.short);
      lowest = omega (arith, lowest_is, split);
      highest = omega (arith, lowest_is, width_is, split, below);
    }

pub in_its_bucket : ValuesAreInTheirBuckets
in_its_bucket value fits = in_bucket value (bits_untold value) (bucket_of value) refl (cut value fits)

-- the same where the bits are known by an equation
pub in_bucket_by : (value bits : ℕ) → value < 2 ^ 64 → bits ≡ bits_untold value → IsIn (128 * bits + value / 2 ^ bits) value
in_bucket_by value bits fits is = in_bucket value bits (128 * bits + value / 2 ^ bits) refl (subst (IsCut value) (sym is) (cut value fits))

-- ---- the next bucket begins after a bucket's greatest value

next_of_a_width : (bucket bits : ℕ) → bits_untold_in bucket ≡ bits → bits_untold_in (suc bucket) ≡ bits → lowest_of (suc bucket) ≡ suc (highest_of bucket)
next_of_a_width bucket bits here next =
    let first : lowest_of bucket ≡ (bucket - 128 * bits) * 2 ^ bits = ap (λ (n : ℕ). (bucket - 128 * n) * 2 ^ n) here in
    let width : width_of bucket ≡ 2 ^ bits = ap (λ (n : ℕ). 2 ^ n) here in
    let lead : suc bucket - 128 * bits ≡ suc (bucket - 128 * bits) = omega (arith, here) in
    let second : lowest_of (suc bucket) ≡ suc (bucket - 128 * bits) * 2 ^ bits = ap (λ (n : ℕ). (suc bucket - 128 * n) * 2 ^ n) next ∙ ap (λ (n : ℕ). n * 2 ^ bits) lead in
    omega (arith, first, width, second, pow_pos bits)

next_of_the_first : (bucket : ℕ) → bucket ≡ 127 → lowest_of (suc bucket) ≡ suc (highest_of bucket)
next_of_the_first bucket is = ap (λ (b : ℕ). lowest_of (suc b)) is ∙ ap (λ (b : ℕ). suc (highest_of b)) (sym is)

next_of_a_row : (bucket bits : ℕ) → bucket ≡ 128 * bits + 255 → lowest_of (suc bucket) ≡ suc (highest_of bucket)
next_of_a_row bucket bits is =
    let here : bits_untold_in bucket ≡ bits = omega arith in
    let next : bits_untold_in (suc bucket) ≡ suc bits = omega arith in
    let first : lowest_of bucket ≡ 255 * 2 ^ bits = ap (λ (n : ℕ). (bucket - 128 * n) * 2 ^ n) here ∙ ap (λ (n : ℕ). n * 2 ^ bits) (omega arith) in
    let width : width_of bucket ≡ 2 ^ bits = ap (λ (n : ℕ). 2 ^ n) here in
    let second : lowest_of (suc bucket) ≡ 128 * 2 ^ suc bits = ap (λ (n : ℕ). (suc bucket - 128 * n) * 2 ^ n) next ∙ ap (λ (n : ℕ). n * 2 ^ suc bits) (omega arith) in
    omega (arith, first, width, second, pow_pos bits, pow-suc 2 bits)

-- a bucket is the last of its width, or the next one has the same
data Follows (bucket : ℕ) : Type 0 where
  first : bucket ≡ 127 → Follows bucket
  row : (bits : ℕ) → bucket ≡ 128 * bits + 255 → Follows bucket
  inner : bits_untold_in (suc bucket) ≡ bits_untold_in bucket → Follows bucket

follows : (bucket : ℕ) → Follows bucket
follows bucket = elim (within (bucket % 128) 127) [
  | inl less ↦ inner (omega arith)
  | inr last ↦ elim (within (bucket / 128) 1) [
    | inl few ↦ first (omega arith)
    | inr more ↦ row (bucket / 128 - 1) (omega arith)
  ]
]

pub next_lowest : BucketsAreApart
next_lowest bucket = elim (follows bucket) [
  | first is ↦ next_of_the_first bucket is
  | row bits is ↦ next_of_a_row bucket bits is
  | inner same ↦ next_of_a_width bucket (bits_untold_in bucket) refl same
]

-- ---- how wide a bucket is

narrow_of : (bucket bits : ℕ) → bits_untold_in bucket ≡ bits → 128 * (2 ^ bits - 1) ≤ (bucket - 128 * bits) * 2 ^ bits
narrow_of bucket zero none = omega arith
narrow_of bucket (suc bits) some =
    let lead : 128 ≤ bucket - 128 * suc bits = omega arith in
    omega (arith, mul-le-mul_right (2 ^ suc bits) lead)

pub narrow : BucketsAreNarrow
narrow bucket = narrow_of bucket (bits_untold_in bucket) refl

few_bits : (bucket : ℕ) → bucket < 7424 → bits_untold_in bucket ≤ 56
few_bits bucket there = omega arith

-- no bits are lost as a bucket's lead is shifted
pub lowest_shifted : (bucket bits : ℕ) → bucket < 7424 → bits ≡ bits_untold_in bucket → (bucket - 128 * bits) * 2 ^ bits % 2 ^ 64 ≡ lowest_of bucket
lowest_shifted bucket bits there is =
    shl_whole (bucket - 128 * bits) 8 bits 64 (omega arith) (omega (arith, few_bits bucket there)) ∙ ap (λ (n : ℕ). (bucket - 128 * n) * 2 ^ n) is

pub width_shifted : (bucket bits : ℕ) → bucket < 7424 → bits ≡ bits_untold_in bucket → 1 * 2 ^ bits % 2 ^ 64 ≡ width_of bucket
width_shifted bucket bits there is = one_shl bits 64 (omega (arith, few_bits bucket there)) ∙ ap (λ (n : ℕ). 2 ^ n) is

-- a bucket's greatest value is below 2 ^ 64
pub highest_fits : (bucket : ℕ) → bucket < 7424 → highest_of bucket < 2 ^ 64
highest_fits bucket there =
    let lead : bucket - 128 * bits_untold_in bucket ≤ 255 = omega arith in
    let most : 2 ^ bits_untold_in bucket ≤ 2 ^ 56 = pow_mono (bits_untold_in bucket) 56 (omega arith) in
    omega (arith, mul-le-mul_right (2 ^ bits_untold_in bucket) lead, most, pow_pos (bits_untold_in bucket))
