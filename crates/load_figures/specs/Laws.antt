-- What buckets and tallies tell of the values that were recorded.
use Rattle.std.specs.Prelude.{◌≡◌, ℕ, suc, ◌-◌, ◌*◌, ◌^◌, ◌<◌, ◌≤◌, ◌==◌, nat_le, nat_lt, List, ◌++◌, All, count_by, length, slice_index, sum}
use Rattle.load_figures.specs.Buckets.{bucket_of, highest_of, lowest_of, width_of, IsIn}
use Rattle.load_figures.specs.Tally.{added, tally_of, values_in}
use Rattle.load_figures.specs.Percentiles.{IsValueAt}

-- each value below 2 ^ 64 is in its bucket, and in no other
abbrev pub ValuesAreInTheirBuckets : Type 0
ValuesAreInTheirBuckets = (value : ℕ) → value < 2 ^ 64 → IsIn (bucket_of value) value

abbrev pub BucketsAreApart : Type 0
BucketsAreApart = (bucket : ℕ) → lowest_of (suc bucket) ≡ suc (highest_of bucket)

-- a bucket's values differ by less than one percent: by at most a 128th of the least of them
abbrev pub BucketsAreNarrow : Type 0
BucketsAreNarrow = (bucket : ℕ) → 128 * (width_of bucket - 1) ≤ lowest_of bucket

-- values below 2 ^ 64
abbrev pub Fit : List ℕ → Type 0
Fit values = All (λ value. value < 2 ^ 64) values

-- a count is the number of values that fell into its bucket
abbrev pub CountsAreOfValues : Type 0
CountsAreOfValues = (values : List ℕ) (bucket : ℕ) → bucket < 7424
    → slice_index (tally_of values).counts bucket ≡ count_by (λ value. bucket_of value == bucket) values

-- and so are the number of values and their sum
abbrev pub NumberIsOfValues : Type 0
NumberIsOfValues = (values : List ℕ) → Fit values → values_in (tally_of values) ≡ length values

abbrev pub TotalIsOfValues : Type 0
TotalIsOfValues = (values : List ℕ) → (tally_of values).total ≡ sum values

-- the tallies of two lists, added, are that of both
abbrev pub TalliesAddUp : Type 0
TalliesAddUp = (values others : List ℕ)
    → added (tally_of values) (tally_of others) ≡ tally_of (values ++ others)

-- so many values are at most that value, fewer are below its bucket, which is narrow
pub record IsPercentile (values : List ℕ) (rank value : ℕ) : Type 0 where
  pub enough : rank ≤ count_by (λ x. nat_le x value) values
  pub least : ℕ
  pub fewer : count_by (λ x. nat_lt x least) values < rank
  pub near : 128 * (value - least) ≤ least

abbrev pub ValueAtIsPercentile : Type 0
ValueAtIsPercentile = (values : List ℕ) (rank value : ℕ) → Fit values → IsValueAt (tally_of values) rank value
    → IsPercentile values rank value
