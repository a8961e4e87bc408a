-- The results of a crawl's calls, and the numbers of its jobs.
use Rattle.std.specs.Prelude.{◌≡◌, ◌+◌, ◌-◌, ◌<◌, slice_index_or, ℕ, zero, suc, List, [], ◌∷◌, ◌++◌, length, map}
use Rattle.std.specs.List.{All}
use Rattle.conn_log.specs.Sound.{AreDistinct}
use Rattle.exchange.specs.declared.done.Done.{Done}
use Rattle.exchange.specs.declared.job.Job.{Job}
use Rattle.run_loop.specs.Taking.{AllTaken, JobResult}
use Rattle.run_loop.specs.declared.results.Span.{Span}

-- n numbers from that one on, in order
abbrev pub numbers_from : ℕ → ℕ → List ℕ
numbers_from first zero = []
numbers_from first (suc n) = numbers_from first n ++ (first + n) ∷ []

-- the numbers of the transfers of these jobs
abbrev pub job_number : Job → ℕ
job_number job = job.want.transfer

abbrev pub job_numbers : List Job → List ℕ
job_numbers jobs = map job_number jobs

-- these jobs have the numbers from `first` on, in order; `next` is the number after them
pub record HaveNumbers (first next : ℕ) (jobs : List Job) : Type 0 where
  pub numbers : job_numbers jobs ≡ numbers_from first (length jobs)
  pub after : next ≡ first + length jobs

-- the numbers of these jobs are distinct, and below `next`
pub record AreNumbered (next : ℕ) (jobs : List Job) : Type 0 where
  pub distinct : AreDistinct (job_numbers jobs)
  pub below : All (λ number. number < next) (job_numbers jobs)

-- results that satisfy this were taken, the newest first, and nothing else was
abbrev pub TakesAll : {R : Type 0} → (List JobResult → Type 0) → (R → R → ℕ → Done → Span → Type 0) → R → R → Type 0
TakesAll Came took old new = (results : List JobResult) × Came results × AllTaken took old new results

-- the number of the first of these jobs, or 0 if there is none
abbrev pub first_number : List Job → ℕ
first_number [] = 0
first_number (job ∷ jobs) = job.want.transfer

-- the job of each number: one of these jobs, numbered from `first`, or another job
abbrev pub job_of : List Job → ℕ → Job → ℕ → Job
job_of jobs first other = λ number. slice_index_or jobs (number - first) other
