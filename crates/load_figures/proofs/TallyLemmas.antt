-- What a tally tells of the values recorded.
use Rattle.std.proofs.Common.{◌≡◌, ◌⊎◌, ℕ, suc, ◌+◌, ◌-◌, ◌*◌, ◌^◌, ◌<◌, ◌≤◌, Bool, true, false, cond, nat_le, nat_lt, List, [], ◌∷◌, length, max, min, slice_index, sum, take, refl, sym, ap, inl, inr, ◌∙◌, arith, length-set, get_or-set_same, get_or-set_other}
use Rattle.std.specs.List.{count_by, All}
use Rattle.std.specs.Prelude.{◌==◌}
use Rattle.std.proofs.lemmas.Bool.Decides.{eqb_tells, nat_tests}
use Rattle.std.proofs.lemmas.List.{get_or-replicate, length-replicate}
use Rattle.std.proofs.lemmas.List.Elements.{All-head, All-tail, All-cons, All-nil, All-weaker}
use Rattle.std.proofs.lemmas.List.{take-set-le}
use Rattle.load_figures.specs.Buckets.{bucket_of, highest_of, lowest_of, width_of}
use Rattle.load_figures.specs.Tally.{Tally, added, nothing, recorded, tally_of}
use Rattle.load_figures.specs.Laws.{Fit, CountsAreOfValues, NumberIsOfValues, TotalIsOfValues, TalliesAddUp, ValueAtIsPercentile}
use Rattle.load_figures.proofs.BucketLemmas.{in_its_bucket, narrow}
use Rattle.load_figures.proofs.BucketOrder.{below, up_to}
use Rattle.load_figures.proofs.CountLemmas.{count-cons, count-same, more_at, sum-cons, sum-replicate, sum_take-more_at, sum-more_at, sum_take-replicate, sums-more_at, sums-none}

pub size_of : (values : List ℕ) → length (tally_of values).counts ≡ 7424
size_of [] = length-replicate {A = ℕ} 7424 0
size_of (value ∷ values) = length-set (tally_of values).counts (bucket_of value) (slice_index (tally_of values).counts (bucket_of value) + 1) ∙ size_of values

pub counts_of : CountsAreOfValues
counts_of [] bucket there = get_or-replicate 7424 bucket 0 0 there
counts_of (value ∷ values) bucket there =
    elim (eqb_tells (bucket_of value) bucket) [
      | inl same ↦
          ap (slice_index (more_at (tally_of values).counts (bucket_of value))) (sym same.1)
          ∙ get_or-set_same (tally_of values).counts (bucket_of value) (slice_index (tally_of values).counts (bucket_of value) + 1) 0 (omega (arith, size_of values, same.1))
          ∙ omega (arith, ap (slice_index (tally_of values).counts) same.1, counts_of values bucket there, count-cons (λ v. bucket_of v == bucket) value values, ap {B = ℕ} (λ (b : Bool). cond b 1 0) same.0)
      | inr other ↦
          get_or-set_other (tally_of values).counts (bucket_of value) bucket (slice_index (tally_of values).counts (bucket_of value) + 1) 0 (λ e. other.1 (sym e))
          ∙ omega (arith, counts_of values bucket there, count-cons (λ v. bucket_of v == bucket) value values, ap {B = ℕ} (λ (b : Bool). cond b 1 0) other.0)
    ]

pub number_of : NumberIsOfValues
number_of [] fit = sum-replicate 7424
number_of (value ∷ values) fit =
    let is_in = in_its_bucket value (All-head (λ v. v < 2 ^ 64) value values fit) in
    omega (arith, sum-more_at (tally_of values).counts (bucket_of value) (omega (arith, is_in.there, size_of values)), number_of values (All-tail (λ v. v < 2 ^ 64) value values fit))

pub total_of : TotalIsOfValues
total_of [] = refl
total_of (value ∷ values) = omega (arith, total_of values, sum-cons value values)

abbrev made_of : List ℕ → ℕ → ℕ → Tally
made_of counts total greatest = record { counts = counts; total = total; greatest = greatest }

same_tally : (tally other : Tally) → tally.counts ≡ other.counts → tally.total ≡ other.total → tally.greatest ≡ other.greatest → tally ≡ other
same_tally tally other counts total greatest =
    ap (λ (c : List ℕ). made_of c tally.total tally.greatest) counts
    ∙ ap (λ (t : ℕ). made_of other.counts t tally.greatest) total
    ∙ ap (made_of other.counts other.total) greatest

added_recorded : (value : ℕ) (tally other : Tally) → length tally.counts ≡ length other.counts → added (recorded value tally) other ≡ recorded value (added tally other)
added_recorded value tally other same =
    same_tally (added (recorded value tally) other) (recorded value (added tally other))
    (sums-more_at tally.counts other.counts (bucket_of value) same) (omega arith) (omega arith)

pub tallies_add_up : TalliesAddUp
tallies_add_up [] others =
    same_tally (added nothing (tally_of others)) (tally_of others) (sums-none 7424 (tally_of others).counts (size_of others)) (omega arith) (omega arith)
tallies_add_up (value ∷ values) others =
    added_recorded value (tally_of values) (tally_of others) (size_of values ∙ sym (size_of others))
    ∙ ap (recorded value) (tallies_add_up values others)

-- ---- percentiles

order : (m n : ℕ) → (m < n) ⊎ (n ≤ m)
order m n = search arith

-- the first buckets have the values that fell into them
pub first_counts : (values : List ℕ) (n : ℕ) → Fit values → sum (take n (tally_of values).counts) ≡ count_by (λ v. nat_lt (bucket_of v) n) values
first_counts [] n fit = sum_take-replicate n 7424
first_counts (value ∷ values) n fit =
    let is_in = in_its_bucket value (All-head (λ v. v < 2 ^ 64) value values fit) in
    let rest = first_counts values n (All-tail (λ v. v < 2 ^ 64) value values fit) in
    let one_more = count-cons (λ v. nat_lt (bucket_of v) n) value values in
    elim (order (bucket_of value) n) [
      | inl there ↦
          let test : nat_lt (bucket_of value) n ≡ true = grind (arith, nat_tests) in
          omega (arith, sum_take-more_at (tally_of values).counts n (bucket_of value) there (omega (arith, is_in.there, size_of values)), rest, one_more, ap {B = ℕ} (λ (b : Bool). cond b 1 0) test)
      | inr past ↦
          let test : nat_lt (bucket_of value) n ≡ false = grind (arith, nat_tests) in
          let stays = ap sum (take-set-le n (tally_of values).counts (bucket_of value) (slice_index (tally_of values).counts (bucket_of value) + 1) past) in
          omega (arith, stays, rest, one_more, ap {B = ℕ} (λ (b : Bool). cond b 1 0) test)
    ]

pub greatest_of : (values : List ℕ) → All (λ v. v ≤ (tally_of values).greatest) values
greatest_of [] = All-nil (λ v. v ≤ 0)
greatest_of (value ∷ values) =
    All-cons (λ v. v ≤ max (tally_of values).greatest value) value values (omega arith)
    (All-weaker (λ v. v ≤ (tally_of values).greatest) (λ v. v ≤ max (tally_of values).greatest value) (λ v le. omega arith) values (greatest_of values))

-- at most the lesser of two numbers, the second of which is at most reached
min_tests : (v high greatest : ℕ) → v ≤ greatest → nat_le v high ≡ nat_le v (min high greatest)
min_tests v high greatest le = grind (arith, nat_tests)

both : {P Q : ℕ → Type 0} (xs : List ℕ) → All P xs → ((x : ℕ) → P x → Q x) → All Q xs
both {P} {Q} xs all step = All-weaker P Q step xs all

-- a value is less than as much from its bucket's least as the bucket is wide
near_of : (least width greatest value : ℕ) → value ≡ min (least + (width - 1)) greatest → 128 * (width - 1) ≤ least → 128 * (value - least) ≤ least
near_of least width greatest value is narrow = omega arith

pub value_at_is_percentile : ValueAtIsPercentile
value_at_is_percentile values rank value fit at =
    record {
      enough =
          omega (
            arith,
            at.is_least.enough,
            first_counts values (suc at.bucket) fit,
            count-same (λ v. nat_lt (bucket_of v) (suc at.bucket)) (λ v. nat_le v (highest_of at.bucket)) values (both values fit (λ v fits. up_to v at.bucket fits)),
            count-same (λ v. nat_le v (highest_of at.bucket)) (λ v. nat_le v (min (highest_of at.bucket) (tally_of values).greatest)) values (both values (greatest_of values) (λ v le. min_tests v (highest_of at.bucket) (tally_of values).greatest le)),
            ap (λ (n : ℕ). count_by (λ v. nat_le v n) values) at.value_is,
          );
      least = lowest_of at.bucket;
      fewer =
          omega (
            arith,
            at.is_least.fewer,
            first_counts values at.bucket fit,
            count-same (λ v. nat_lt (bucket_of v) at.bucket) (λ v. nat_lt v (lowest_of at.bucket)) values (both values fit (λ v fits. below v at.bucket fits)),
          );
      near = near_of (lowest_of at.bucket) (width_of at.bucket) (tally_of values).greatest value at.value_is (narrow at.bucket);
    }
