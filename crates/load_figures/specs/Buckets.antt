-- The buckets of an HDR histogram with two significant digits, of all values below 2 ^ 64: HdrHistogram's with 256
-- sub-buckets and units of one (Gil Tene, http://hdrhistogram.org; AbstractHistogram, "countsArrayIndex").
use Rattle.std.specs.Prelude.{ℕ, ◌+◌, ◌-◌, ◌*◌, ◌/◌, ◌^◌, ◌<◌, ◌≤◌}
use Rattle.std.specs.Int.{w64, leading_zeros}

-- how many of a value's last bits its bucket does not tell: all but the leading 8
abbrev pub bits_untold : ℕ → ℕ
bits_untold value = 56 - leading_zeros w64 value

-- the bucket that a value falls into
abbrev pub bucket_of : ℕ → ℕ
bucket_of value = 128 * bits_untold value + value / 2 ^ bits_untold value

-- how many last bits a bucket does not tell: none for the first 256 buckets, then one more for each 128
abbrev pub bits_untold_in : ℕ → ℕ
bits_untold_in bucket = bucket / 128 - 1

-- how many values a bucket is for
abbrev pub width_of : ℕ → ℕ
width_of bucket = 2 ^ bits_untold_in bucket

-- a bucket's least value, and its greatest
abbrev pub lowest_of : ℕ → ℕ
lowest_of bucket = (bucket - 128 * bits_untold_in bucket) * width_of bucket

abbrev pub highest_of : ℕ → ℕ
highest_of bucket = lowest_of bucket + (width_of bucket - 1)

-- the value is one of the bucket's
pub record IsIn (bucket value : ℕ) : Type 0 where
  pub there : bucket < 7424
  pub lowest : lowest_of bucket ≤ value
  pub highest : value ≤ highest_of bucket
