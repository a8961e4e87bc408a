-- What a worker begins with, what it leaves, and where its results are put.
use Rattle.std.specs.Prelude.{◌≡◌, ℕ, ◌<◌, ◌⊎◌, List, [], length, None, IfNone, IsSomeAnd, slice_get}
use Rattle.std.specs.List.{Contains}
use Rattle.run_loop.specs.Draws.{Jobs, times, new_seat}
use Rattle.exchange.specs.declared.job.Job.{Job}
use Rattle.exchange.specs.declared.done.Done.{Done}
use Rattle.exchange.specs.Worlds.{World}
use Rattle.shared_cache.specs.Names.{CacheNames}
use Rattle.shared_cache.specs.Passes.{IsPassOf, IsNewPass}
use Rattle.run_loop.specs.Running.{numbers_of}
use Rattle.driver.specs.Workers.{WorkerShown, AreResults}
use Rattle.driver.specs.Running.{IsWork}

-- a worker before its work: it has a new pass of the cache, and a seat with which it has drawn nothing
pub record IsHired (names : CacheNames) (claim : Jobs) (worker : WorkerShown) : Type 0 where
  pub pass_is : IsSomeAnd worker.pass (IsPassOf names)
  pub new_pass : IsSomeAnd worker.pass IsNewPass
  pub seat_is : worker.seat ≡ new_seat claim
  pub no_results : worker.results ≡ []
  pub well : worker.quit ≡ None

-- A worker after its work: it has its pass again. Unless it gave up, it has carried out the jobs that it
-- drew, has their results, and has drawn a number past the jobs.
pub record HasWorked {W : Type 0} (world : World W) (may_stop : ℕ → Type 0) (names : CacheNames) (claim : Jobs) (jobs : List Job) (worker : WorkerShown) : Type 0 where
  pub pass_is : IsSomeAnd worker.pass (IsPassOf names)
  pub claim_is : worker.seat.claim ≡ claim
  pub share_is : worker.seat.share ≡ 1
  pub fit : AreResults world may_stop jobs worker.results
  pub work : IfNone worker.quit (IsSomeAnd worker.pass (λ pass. IsWork world may_stop names jobs (record { results = worker.results; pass = pass })))
  pub drawn : IfNone worker.quit (worker.seat.drawn ≡ numbers_of worker.results)
  pub past : IfNone worker.quit (0 < worker.seat.past)

-- each result is put in the place of its number; the others stay
pub record IsPlaced (own : List (ℕ × Done)) (old new : List Done) : Type 0 where
  pub number : length new ≡ length old
  pub each : (job : ℕ) → IsSomeAnd (slice_get new job) (λ done. Contains own (job, done)) ⊎ ((slice_get new job ≡ slice_get old job) × (times job (numbers_of own) ≡ 0))
