-- What is counted in the intervals of a load.
use Rattle.std.specs.Prelude.{◌≡◌, ◌≢◌, ◌⊎◌, ℕ, zero, suc, ◌+◌, ◌-◌, ◌*◌, ◌/◌, ◌^◌, ◌<◌, ◌≤◌, max, min, Bool, List, [], ◌∷◌, Option, Some, None, length, replicate, slice_index, slice_index_or, slice_set, sum, vec_capacity}
use Rattle.std.specs.Global.{Vec}
use Rattle.load_figures.specs.Buckets.{bucket_of, highest_of}
use Rattle.load_figures.specs.Percentiles.{IsBucketAt}
use Rattle.load_figures.specs.Counts.{capped, each_with, more_if}

-- what is counted in one interval: jobs done, those that failed, and of those with a whole response the greatest latency,
-- and in slices of four buckets of a histogram how many latencies fell into each
pub record IntervalCounts : Type 0 where
  pub requests : ℕ
  pub failed : ℕ
  pub greatest : ℕ
  pub slices : List ℕ

-- no job
abbrev pub no_interval : IntervalCounts
no_interval = record { requests = 0; failed = 0; greatest = 0; slices = replicate 832 0 }

-- the slices of an interval as they are kept: none without a latency
abbrev pub slices_in : List ℕ → List ℕ
slices_in [] = replicate 832 0
slices_in (count ∷ counts) = count ∷ counts

-- all slices are written, or none; and they have their memory
abbrev pub HasSlices : Vec ℕ → Type 0
HasSlices slices = ((slices.items ≡ []) ⊎ (length slices.items ≡ 832)) × (832 ≤ vec_capacity slices)

-- the count of a slice: one past the greatest u32 stays there
abbrev pub capped_slices : ℕ → ℕ → ℕ
capped_slices count other = min (count + other) (2 ^ 32 - 1)

-- the slice of a latency; of one past the greatest u32 it is the last
abbrev pub slice_of : ℕ → ℕ
slice_of latency = bucket_of (min latency (2 ^ 32 - 1)) / 4

-- one more latency in its slice, if there is one; the greatest one is kept beside the slices
abbrev pub with_slice : Option ℕ → IntervalCounts → IntervalCounts
with_slice None interval = interval
with_slice (Some latency) interval = record interval {
  greatest = max interval.greatest latency;
  slices = slice_set interval.slices (slice_of latency) (capped_slices (slice_index interval.slices (slice_of latency)) 1);
}

-- one more job that was done
abbrev pub with_job : Bool → Option ℕ → IntervalCounts → IntervalCounts
with_job has_failed latency interval = with_slice latency (record interval {
  requests = capped (interval.requests + 1);
  failed = more_if has_failed interval.failed;
})

-- the jobs of both
abbrev pub both : IntervalCounts → IntervalCounts → IntervalCounts
both interval other = record {
  requests = capped (interval.requests + other.requests);
  failed = capped (interval.failed + other.failed);
  greatest = max interval.greatest other.greatest;
  slices = each_with capped_slices interval.slices other.slices;
}

-- the latency that so many hundredths of the jobs do not pass: the greatest of the least slice that so many do not pass,
-- or the greatest of all if it is less
pub record IsLatencyAt (interval : IntervalCounts) (hundredths latency : ℕ) : Type 0 where
  pub slice : ℕ
  pub is_least : IsBucketAt interval.slices (max 1 ((capped (sum interval.slices) * hundredths + 99) / 100)) slice
  pub latency_is : latency ≡ min (highest_of (4 * slice + 3)) interval.greatest

-- the interval at a place: past the last there is no job
abbrev pub interval_at : List IntervalCounts → ℕ → IntervalCounts
interval_at intervals place = slice_index_or intervals place no_interval

-- so many intervals, by their places
abbrev pub listed : ℕ → (ℕ → IntervalCounts) → List IntervalCounts
listed zero at = []
listed (suc count) at = at 0 ∷ listed count (λ place. at (suc place))

-- how long intervals are, and what is counted in them
pub record IntervalLine : Type 0 where
  pub length_us : ℕ
  pub items : List IntervalCounts

-- no job in 600 intervals of 100 ms
abbrev pub no_line : IntervalLine
no_line = record { length_us = 100000; items = replicate 600 no_interval }

-- one interval of each two, which is twice as long
abbrev pub folded : IntervalLine → IntervalLine
folded line = record {
  length_us = capped (line.length_us * 2);
  items = listed 600 (λ place. both (interval_at line.items (2 * place)) (interval_at line.items (2 * place + 1)));
}

-- folded so many times
abbrev pub folded_times : ℕ → IntervalLine → IntervalLine
folded_times zero line = line
folded_times (suc times) line = folded (folded_times times line)

-- with another interval at a place
abbrev pub with_interval : ℕ → IntervalCounts → IntervalLine → IntervalLine
with_interval place interval line = record line { items = slice_set line.items place interval }

-- a job that ended then counts in its interval, after as many foldings as let it be one of 600
pub record CountsJob (has_failed : Bool) (ended : ℕ) (latency : Option ℕ) (old new : IntervalLine) : Type 0 where
  pub foldings : ℕ
  pub needed : (times : ℕ) → times < foldings → 600 ≤ ended / (folded_times times old).length_us
  pub enough : ended / (folded_times foldings old).length_us < 600
  pub counted : let line = folded_times foldings old in
      new ≡ with_interval (ended / line.length_us) (with_job has_failed latency (interval_at line.items (ended / line.length_us))) line

-- another line's interval is joined with the one in which it begins
abbrev pub with_joined : ℕ → IntervalLine → IntervalLine → IntervalLine
with_joined place other line =
    let own = place * other.length_us / line.length_us in
    with_interval own (both (interval_at line.items own) (interval_at other.items place)) line

-- so many intervals of another line, one after the other
abbrev pub joined_first : ℕ → IntervalLine → IntervalLine → IntervalLine
joined_first zero other line = line
joined_first (suc first) other line = with_joined first other (joined_first first other line)

-- another line's jobs are added, after as many foldings as make intervals no shorter than the other's
pub record JoinsLine (old other new : IntervalLine) : Type 0 where
  pub foldings : ℕ
  pub needed : (times : ℕ) → times < foldings → (folded_times times old).length_us < other.length_us
  pub enough : other.length_us ≤ (folded_times foldings old).length_us
  pub joined : new ≡ joined_first 600 other (folded_times foldings old)

-- so many intervals, of at least 100 ms
pub record AreIntervals (length_us : ℕ) (intervals : List IntervalCounts) : Type 0 where
  pub as_many : length intervals ≡ 600
  pub long : 100000 ≤ length_us

-- each interval is one of two of the old ones
pub record IsFold (old new : List IntervalCounts) : Type 0 where
  pub as_many : length new ≡ length old
  pub each : (place : ℕ) → interval_at new place ≡ both (interval_at old (2 * place)) (interval_at old (2 * place + 1))

-- the interval at a place is joined with the next one, which has no job any more
pub record IsPairJoined (place : ℕ) (old new : List IntervalCounts) : Type 0 where
  pub as_many : length new ≡ length old
  pub joined : interval_at new place ≡ both (interval_at old place) (interval_at old (place + 1))
  pub emptied : interval_at new (place + 1) ≡ no_interval
  pub others : (other : ℕ) → other ≢ place → other ≢ place + 1 → interval_at new other ≡ interval_at old other
