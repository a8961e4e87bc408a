-- Which result is a job's, and what carrying jobs out is, one after another.
use Rattle.std.specs.Prelude.{◌≡◌, ℕ, List, [], ◌∷◌, slice_get, slice_index_or, IsSomeAnd}
use Rattle.cache_trait.specs.CacheCalls.{CacheCall}
use Rattle.exchange.specs.declared.job.Job.{Job}
use Rattle.exchange.specs.declared.job.Prepared.{Prepared}
use Rattle.exchange.specs.declared.done.Done.{Done}
use Rattle.exchange.specs.declared.done.Done.TheVariants.{Bad}
use Rattle.exchange.specs.declared.done.Fault.TheVariants.{Cancelled}
use Rattle.exchange.specs.Worlds.{World}
use Rattle.exchange.specs.Standing.{Ends}
use Rattle.exchange.specs.Carrying.{IsForJob, CarriesOut}
use Rattle.run_loop.specs.Running.{IsRunning, numbers_of}

-- A transfer of that job ended so, by what was done for it. A good one sent the job's request whole on one wire; its
-- status, its facts and its body's length are those of exactly the bytes that this wire received since its lease was given
-- (RFC 9112, section 6.3), and its lease went back with these facts.
pub record IsEndOf {W : Type 0} (world : World W) (job : Job) (done : Done) : Type 0 where
  pub parts : Prepared
  pub its : IsForJob job parts
  pub calls : List (CacheCall W)
  pub ends : Ends world parts done calls

-- how a job may end: cancelled if it may be stopped, else by what was done for it
abbrev pub IsResultOf : {W : Type 0} → World W → Type 0 → Job → Done → Type 0
IsResultOf world may_stop job (Bad Cancelled) = may_stop
IsResultOf world may_stop job done = IsEndOf world job done

-- it is how the job of that number ended
abbrev pub IsResultAt : {W : Type 0} → World W → (ℕ → Type 0) → List Job → ℕ → Done → Type 0
IsResultAt world may_stop jobs number done = IsSomeAnd (slice_get jobs number) (λ job. IsResultOf world (may_stop number) job done)

-- from the one time to the other the cache carried out the job of that number, and did nothing else
abbrev pub CarriesOutAt : {C W : Type 0} → (C → C → CacheCall W → Type 0) → World W → List Job → ℕ → C → C → Done → Type 0
CarriesOutAt did world jobs number before after done = IsSomeAnd (slice_get jobs number) (λ job. CarriesOut did world job before after done)

-- and the jobs of these numbers, one after another
abbrev pub CarriesOutAll : {C W : Type 0} → (C → C → CacheCall W → Type 0) → World W → List Job → C → C → List (ℕ × Done) → Type 0
CarriesOutAll did world jobs before after [] = after ≡ before
CarriesOutAll {C} did world jobs before after (result ∷ others) = (middle : C) × CarriesOutAt did world jobs result.0 before middle result.1 × CarriesOutAll did world jobs middle after others

-- the job of each number; past the list it is another one
abbrev pub job_in : List Job → Job → ℕ → Job
job_in jobs other number = slice_index_or jobs number other

-- From the one time to the other the cache carried out the jobs of these results, and did nothing else. What it did is one
-- list of calls, each with the number of its job, as in a run with many jobs at once; and it carried out one job after
-- another.
pub record RunsInTurn {C W : Type 0} (did : C → C → CacheCall W → Type 0) (world : World W) (may_stop : ℕ → Type 0) (jobs : List Job) (before after : C) (results : List (ℕ × Done)) : Type 0 where
  pub running : (other : Job) → IsRunning did world may_stop (job_in jobs other) before after (numbers_of results) [] results
  pub in_turn : CarriesOutAll did world jobs before after results
