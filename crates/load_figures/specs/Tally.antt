-- What a histogram keeps of the values that were recorded.
use Rattle.std.specs.Prelude.{◌≡◌, ℕ, ◌+◌, ◌-◌, ◌*◌, ◌^◌, ◌≤◌, List, [], ◌∷◌, length, max, replicate, slice_index, slice_set, sum}
use Rattle.load_figures.specs.Buckets.{bucket_of}

-- how many values fell into each bucket, the sum of all values, and the greatest of them, 0 if there is none
pub record Tally : Type 0 where
  pub counts : List ℕ
  pub total : ℕ
  pub greatest : ℕ

-- how many values were recorded
abbrev pub values_in : Tally → ℕ
values_in tally = sum tally.counts

abbrev pub nothing : Tally
nothing = record { counts = replicate 7424 0; total = 0; greatest = 0 }

-- one more value
abbrev pub recorded : ℕ → Tally → Tally
recorded value tally = record {
  counts = slice_set tally.counts (bucket_of value) (slice_index tally.counts (bucket_of value) + 1);
  total = tally.total + value;
  greatest = max tally.greatest value;
}

-- the sums, place by place
abbrev pub sums : List ℕ → List ℕ → List ℕ
sums [] others = []
sums (x ∷ xs) [] = []
sums (x ∷ xs) (y ∷ ys) = (x + y) ∷ sums xs ys

-- the values of both
abbrev pub added : Tally → Tally → Tally
added tally other = record {
  counts = sums tally.counts other.counts;
  total = tally.total + other.total;
  greatest = max tally.greatest other.greatest;
}

-- these values, recorded one after the other, the last of the list first
abbrev pub tally_of : List ℕ → Tally
tally_of [] = nothing
tally_of (value ∷ values) = recorded value (tally_of values)

-- a histogram's fields: a count for each bucket, the number of values, and a sum that as many values can have
pub record IsKept (counts : List ℕ) (values total : ℕ) : Type 0 where
  pub size : length counts ≡ 7424
  pub values_are : values ≡ sum counts
  pub total_fits : total ≤ values * (2 ^ 64 - 1)
