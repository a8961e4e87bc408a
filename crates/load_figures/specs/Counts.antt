-- What is counted of jobs.
use Rattle.std.specs.Prelude.{ℕ, ◌+◌, ◌-◌, ◌/◌, ◌^◌, min, Bool, true, false, if◌then◌else◌, ◌&&◌, nat_le, nat_lt, List, [], ◌∷◌, replicate, slice_index, slice_set}
use Rattle.exchange.specs.declared.done.Done.{Done}
use Rattle.exchange.specs.Faults.{fault_index}
use Rattle.load_figures.specs.Tally.{Tally, added, nothing, recorded, values_in}
use Rattle.load_figures.specs.declared.job_counts.JobCounts.{JobCounts}
use Rattle.load_figures.specs.declared.outcome.Outcome.{Outcome}

-- no job
abbrev pub no_job : JobCounts
no_job = record {
  good = 0;
  failed = 0;
  stopped = 0;
  retried = 0;
  reused = 0;
  bytes = 0;
  statuses = replicate 5 0;
  faults = replicate 8 0;
  latencies = nothing;
}

-- a count as it is kept: one past the greatest u64 stays there
abbrev pub capped : ℕ → ℕ
capped count = min count (2 ^ 64 - 1)

-- one more at a place
abbrev pub one_more_at : ℕ → List ℕ → List ℕ
one_more_at place counts = slice_set counts place (capped (slice_index counts place + 1))

-- the items of the first list, each joined with the second list's at its place, if there is one
abbrev pub each_with : {A : Type 0} → (A → A → A) → List A → List A → List A
each_with f [] others = []
each_with f (x ∷ xs) [] = x ∷ xs
each_with f (x ∷ xs) (y ∷ ys) = f x y ∷ each_with f xs ys

-- the sum of two counts
abbrev pub capped_sum : ℕ → ℕ → ℕ
capped_sum count other = capped (count + other)

-- the sums, place by place
abbrev pub sums : List ℕ → List ℕ → List ℕ
sums counts others = each_with capped_sum counts others

-- one more status of its class, from 1xx to 5xx; others have no class
abbrev pub with_status : ℕ → List ℕ → List ℕ
with_status status counts =
    if nat_le 100 status && nat_lt status 600 then one_more_at (status / 100 - 1) counts else counts

-- one more of what is true
abbrev pub more_if : Bool → ℕ → ℕ
more_if true count = capped (count + 1)
more_if false count = count

-- one more latency, if there are fewer than the greatest u64
abbrev pub with_latency : ℕ → Tally → Tally
with_latency latency tally = if nat_lt (values_in tally) (2 ^ 64 - 1) then recorded latency tally else tally

-- the end of a job, beside its outcome: only a whole response has a latency
abbrev pub with_end : Done → ℕ → JobCounts → JobCounts
with_end (Done.Good answer) latency counts = record counts {
  latencies = with_latency latency counts.latencies;
  retried = more_if answer.retried counts.retried;
  reused = more_if answer.reused counts.reused;
  bytes = capped (counts.bytes + answer.body_len);
  statuses = with_status answer.status counts.statuses;
}
with_end (Done.Bad fault) latency counts = record counts { faults = one_more_at (fault_index fault) counts.faults }

-- one more job: a stopped one counts as such alone
abbrev pub counted : Done → Outcome → ℕ → JobCounts → JobCounts
counted done Outcome.Stopped latency counts = record counts { stopped = capped (counts.stopped + 1) }
counted done Outcome.Good latency counts = with_end done latency (record counts { good = capped (counts.good + 1) })
counted done Outcome.Failed latency counts = with_end done latency (record counts { failed = capped (counts.failed + 1) })

-- the latencies of both, if there are no more than the greatest u64
abbrev pub both_latencies : Tally → Tally → Tally
both_latencies tally other = if nat_lt (values_in tally + values_in other) (2 ^ 64) then added tally other else tally

-- the jobs of both: each count is a sum
abbrev pub joined : JobCounts → JobCounts → JobCounts
joined counts other = record {
  good = capped (counts.good + other.good);
  failed = capped (counts.failed + other.failed);
  stopped = capped (counts.stopped + other.stopped);
  retried = capped (counts.retried + other.retried);
  reused = capped (counts.reused + other.reused);
  bytes = capped (counts.bytes + other.bytes);
  statuses = sums counts.statuses other.statuses;
  faults = sums counts.faults other.faults;
  latencies = both_latencies counts.latencies other.latencies;
}
