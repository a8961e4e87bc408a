-- Percentiles of a histogram.
use Rattle.std.specs.Prelude.{◌≡◌, ℕ, suc, ◌+◌, ◌*◌, ◌/◌, ◌<◌, ◌≤◌, List, length, max, min, sum, take}
use Rattle.load_figures.specs.Buckets.{highest_of}
use Rattle.load_figures.specs.Tally.{Tally, values_in}

-- so many thousandths of the values, rounded up, and at least one value
abbrev pub rank_of : ℕ → ℕ → ℕ
rank_of values thousandths = max 1 ((values * thousandths + 999) / 1000)

-- the least bucket that so many values do not pass
pub record IsBucketAt (counts : List ℕ) (rank bucket : ℕ) : Type 0 where
  pub there : bucket < length counts
  pub enough : rank ≤ sum (take (suc bucket) counts)
  pub fewer : sum (take bucket counts) < rank

-- the greatest value of that bucket, or the greatest of all values if it is less
pub record IsValueAt (tally : Tally) (rank value : ℕ) : Type 0 where
  pub bucket : ℕ
  pub is_least : IsBucketAt tally.counts rank bucket
  pub value_is : value ≡ min (highest_of bucket) tally.greatest

-- the value that so many thousandths of all values do not pass
abbrev pub IsPercentileAt : Tally → ℕ → ℕ → Type 0
IsPercentileAt tally thousandths value = IsValueAt tally (rank_of (values_in tally) thousandths) value
