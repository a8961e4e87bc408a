-- What a worker of a load counts.
use Rattle.std.specs.Prelude.{◌≡◌, ℕ, zero, suc, true, false, List, [], ◌∷◌, Option, Some, None, replicate}
use Rattle.exchange.specs.declared.done.Done.{Done}
use Rattle.load_figures.specs.declared.job_counts.JobCounts.{JobCounts}
use Rattle.load_figures.specs.declared.outcome.Outcome.{Outcome}
use Rattle.load_figures.specs.Counts.{counted, no_job}
use Rattle.load_figures.specs.Intervals.{IntervalLine, no_line, CountsJob}

-- what is counted of all jobs, of those of each host, and in intervals
pub record JobFigures : Type 0 where
  pub all : JobCounts
  pub hosts : List JobCounts
  pub intervals : IntervalLine

-- no job, for so many hosts
abbrev pub no_figures : ℕ → JobFigures
no_figures hosts = record { all = no_job; hosts = replicate hosts no_job; intervals = no_line }

-- one more job of that host, if there is such a host
abbrev pub counted_at : ℕ → Done → Outcome → ℕ → List JobCounts → List JobCounts
counted_at host done outcome latency [] = []
counted_at zero done outcome latency (counts ∷ hosts) = counted done outcome latency counts ∷ hosts
counted_at (suc host) done outcome latency (counts ∷ hosts) = counts ∷ counted_at host done outcome latency hosts

-- only a whole response has a latency
abbrev pub latency_of_end : Done → ℕ → Option ℕ
latency_of_end (Done.Good answer) latency = Some latency
latency_of_end (Done.Bad fault) latency = None

-- a job counts in an interval if it was done
abbrev pub CountsInIntervals : Done → Outcome → ℕ → ℕ → IntervalLine → IntervalLine → Type 0
CountsInIntervals done Outcome.Good ended latency old new = CountsJob false ended (latency_of_end done latency) old new
CountsInIntervals done Outcome.Failed ended latency old new = CountsJob true ended (latency_of_end done latency) old new
CountsInIntervals done Outcome.Stopped ended latency old new = new ≡ old
