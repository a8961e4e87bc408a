-- How the results of a load are counted.
use Rattle.std.specs.Prelude.{◌≡◌, ℕ, ◌+◌, ◌-◌, ◌*◌, ◌%◌, ◌==◌, ◌<◌, ◌≤◌, Bool, true, false, List, [], ◌∷◌, length, min, slice_get, Option, Some, None}
use Rattle.exchange.specs.declared.done.Done.{Done}
use Rattle.exchange.specs.declared.done.Done.TheVariants.{Bad}
use Rattle.exchange.specs.declared.done.Fault.TheVariants.{Cancelled}
use Rattle.exchange.specs.declared.job.Job.{Job}
use Rattle.run_loop.specs.declared.results.Span.{Span}
use Rattle.load_figures.specs.Counts.{capped, counted, each_with, joined}
use Rattle.load_figures.specs.Figures.{JobFigures, CountsInIntervals, counted_at, no_figures}
use Rattle.load_figures.specs.Intervals.{JoinsLine}
use Rattle.load_figures.specs.Outcomes.{outcome_of}
use Rattle.load_figures.specs.declared.outcome.Outcome.{Outcome}
use Rattle.load_run.specs.declared.counted_results.Counting.{Counting}
use Rattle.load_run.specs.declared.counted_results.CountedResults.{CountedResults}
use Rattle.load_run.specs.declared.pace.Rate.{Rate}
use Rattle.load_run.specs.declared.plan.LoadTimes.{LoadTimes}
use Rattle.load_run.specs.Pace.{due_at, due_before}

-- when the warm-up ends, and how long a job may take at most, in microseconds; 0 is no limit
abbrev pub warm_of : LoadTimes → ℕ
warm_of times = times.warmup * 1000000

abbrev pub limit_of : Option ℕ → ℕ
limit_of None = 0
limit_of (Some seconds) = seconds * 1000000

-- the site of a URL, if there is one
abbrev pub site_of : Option Job → ℕ
site_of None = 0
site_of (Some url) = url.site

-- the site of the job of that number: that of its URL
abbrev pub site_at : List Job → ℕ → ℕ
site_at urls number = site_of (slice_get urls (number % length urls))

-- the moment from which the latency of the job of that number counts: when it was due, or else when it began
abbrev pub counts_from : Option Rate → ℕ → Span → ℕ
counts_from None number span = span.began
counts_from (Some rate) number span = due_at rate.in_second number

abbrev pub latency_of : LoadTimes → ℕ → Span → ℕ
latency_of times number span = span.ended - counts_from times.rate number span

-- what the end of a job means that was under way so long
abbrev pub outcome_in : Counting → Done → Span → Outcome
outcome_in counting done span = outcome_of done (span.ended - span.began) (limit_of counting.times.timeout) counting.fails_statuses

-- a job was stopped as it was to begin
abbrev pub has_not_begun : Done → Span → Bool
has_not_begun (Bad Cancelled) span = span.began == span.ended
has_not_begun done span = false

-- one more job of that site: among all jobs, among those of the site, and in the interval in which it ended
pub record CountsJobAt (site : ℕ) (done : Done) (outcome : Outcome) (ended latency : ℕ) (old new : JobFigures) : Type 0 where
  pub all : new.all ≡ counted done outcome latency old.all
  pub sites : new.hosts ≡ counted_at site done outcome latency old.hosts
  pub intervals : CountsInIntervals done outcome ended latency old.intervals new.intervals

-- the job of that number is counted by its site, outcome and latency, and by when it ended after the warm-up
pub record Counts (number : ℕ) (done : Done) (span : Span) (old new : CountedResults) : Type 0 where
  pub figures : CountsJobAt (site_at old.counting.urls.now number) done (outcome_in old.counting done span)
      (span.ended - warm_of old.counting.times) (latency_of old.counting.times number span) old.figures new.figures
  pub unbegun : new.unbegun ≡ old.unbegun
  pub counting : new.counting ≡ old.counting

-- the result of the job of that number was taken, which was under way in that span: a job that was stopped as it was to
-- begin is in no figure, nor is one that ended in the warm-up
pub record Takes (old new : CountedResults) (number : ℕ) (done : Done) (span : Span) : Type 0 where
  pub not_begun : has_not_begun done span ≡ true → new ≡ record old { unbegun = capped (old.unbegun + 1) }
  pub warming : has_not_begun done span ≡ false → span.ended < warm_of old.counting.times → new ≡ old
  pub counts : has_not_begun done span ≡ false → warm_of old.counting.times ≤ span.ended → Counts number done span old new

-- nothing was counted yet, for so many hosts
pub record IsUncounted (hosts : ℕ) (counting : Counting) (own : CountedResults) : Type 0 where
  pub figures : own.figures ≡ no_figures hosts
  pub unbegun : own.unbegun ≡ 0
  pub counting_is : own.counting ≡ counting

-- the figures of two are added
pub record AddsFigures (old other new : JobFigures) : Type 0 where
  pub all : new.all ≡ joined old.all other.all
  pub sites : new.hosts ≡ each_with joined old.hosts other.hosts
  pub intervals : JoinsLine old.intervals other.intervals new.intervals

-- to the figures those of others are added, one after another
abbrev pub AddsAll : JobFigures → List CountedResults → JobFigures → Type 0
AddsAll figures [] new = new ≡ figures
AddsAll figures (own ∷ others) new = (middle : JobFigures) × AddsFigures figures own.figures middle × AddsAll middle others new

-- how many of all were stopped as they were to begin, and so many more
abbrev pub with_unbegun : ℕ → List CountedResults → ℕ
with_unbegun count [] = count
with_unbegun count (own ∷ others) = with_unbegun (capped (count + own.unbegun)) others

-- the end of a load by its times, if it is no later
abbrev pub end_by : LoadTimes → ℕ → ℕ
end_by times ended = end_within times.seconds
  where
    end_within : Option ℕ → ℕ
    end_within None = ended
    end_within (Some seconds) = min ((times.warmup + seconds) * 1000000) ended

-- how many jobs of so many were due before a load ended, and never begun
abbrev pub missed_of : LoadTimes → ℕ → ℕ → ℕ → ℕ
missed_of times jobs ended begun = missed_at times.rate
  where
    missed_at : Option Rate → ℕ
    missed_at None = 0
    missed_at (Some rate) = due_before rate.in_second jobs (end_by times ended) - begun
