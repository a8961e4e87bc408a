-- What a run answers.
use Rattle.std.specs.Prelude.{◌≡◌, ℕ, ◌<◌, List, length, map, slice_get, true, IsSomeAnd}
use Rattle.std.specs.List.{All, Contains, flat_map}
use Rattle.run_loop.specs.Draws.{AreFirst}
use Rattle.exchange.specs.declared.job.Job.{Job}
use Rattle.exchange.specs.declared.done.Done.{Done}
use Rattle.exchange.specs.Worlds.{World}
use Rattle.bundle.specs.Passes.{Accounts}
use Rattle.shared_cache.specs.Names.{CacheNames}
use Rattle.shared_cache.specs.Passes.{IsPassOf, IsNewPass}
use Rattle.shared_cache.specs.Desks.{DeskShown}
use Rattle.shared_cache.specs.DeskCalls.{DidAtDesk}
use Rattle.run_loop.specs.Running.{numbers_of}
use Rattle.driver.specs.declared.fault.DriverFault.{DriverFault}
use Rattle.driver.specs.declared.fault.DriverFault.TheVariants.{BadWorkers}
use Rattle.driver.specs.declared.running.RunReport.{RunReport}
use Rattle.driver.specs.Results.{IsResultAt, RunsInTurn}
use Rattle.driver.specs.Faults.{IsWorkerFault, are_bad_workers}

-- what a worker has done: the results of the jobs that it drew, each with its number, and its pass
pub record Work : Type 0 where
  pub results : List (ℕ × Done)
  pub pass : Accounts

abbrev pub results_of : Work → List (ℕ × Done)
results_of work = work.results

abbrev pub pass_of : Work → Accounts
pass_of work = work.pass

-- with a new pass the worker carried out the jobs of these results, one after another, and did nothing else, and left the
-- pass so
pub record IsWork {W : Type 0} (world : World W) (may_stop : ℕ → Type 0) (names : CacheNames) (jobs : List Job) (work : Work) : Type 0 where
  pub before : DeskShown W
  pub after : DeskShown W
  pub new_pass : IsNewPass before.pass
  pub pass_is : work.pass ≡ after.pass
  pub carried : RunsInTurn (DidAtDesk names) world may_stop jobs before after work.results

-- the results of all workers
abbrev pub results_of_all : List Work → List (ℕ × Done)
results_of_all all_work = flat_map results_of all_work

-- Each worker carried out the jobs that it drew, with a pass of its own, and all workers together carried out each job
-- once. The results are theirs, in the order of the jobs, and each is that of its job. The passes are the cache's, as the
-- workers left them.
pub record IsRun {W : Type 0} (world : World W) (may_stop : ℕ → Type 0) (names : CacheNames) (jobs : List Job) (workers : ℕ) (report : RunReport) : Type 0 where
  pub all_work : List Work
  pub worked : All (IsWork world may_stop names jobs) all_work
  pub once : AreFirst (length jobs) (numbers_of (results_of_all all_work))
  pub number : length report.results.items ≡ length jobs
  pub each : (job : ℕ) → job < length jobs → IsSomeAnd (slice_get report.results.items job) (λ done.
      Contains (results_of_all all_work) (job, done) × IsResultAt world may_stop jobs job done)
  pub passes_are : report.passes.items ≡ map pass_of all_work
  pub passes_number : length report.passes.items ≡ workers
  pub passes : All (IsPassOf names) report.passes.items

-- why there are no results: bad workers, only if there are none or too many; else what a worker met
abbrev pub IsRefusedFor : ℕ → DriverFault → Type 0
IsRefusedFor workers BadWorkers = are_bad_workers workers ≡ true
IsRefusedFor workers fault = IsWorkerFault fault
