-- What a load with many jobs at once leaves.
use Rattle.std.specs.Prelude.{◌≡◌, ℕ, ◌-◌, ◌*◌, ◌<◌, List, [], length, map, min, reverse, Option, Some, None, false}
use Rattle.std.specs.List.{All}
use Rattle.std.specs.Global.{Vec}
use Rattle.conn_log.specs.declared.entry.Entry.{Entry}
use Rattle.bundle.specs.Passes.{Accounts}
use Rattle.exchange.specs.declared.job.Job.{Job}
use Rattle.exchange.specs.Worlds.{World}
use Rattle.shared_cache.specs.Names.{CacheNames, IsPlanFor}
use Rattle.shared_cache.specs.Gathering.{IsGathered}
use Rattle.run_loop.specs.declared.run_end.RunEnd.{RunEnd}
use Rattle.run_loop.specs.Going.{is_fault}
use Rattle.run_loop.specs.Moments.{TakesTimed}
use Rattle.driver.specs.declared.many.worker.Finished.{Finished}
use Rattle.driver.specs.ManyWork.{IsManyRun}
use Rattle.load_run.specs.declared.counted_results.CountedResults.{CountedResults}
use Rattle.load_run.specs.declared.loading.LoadedMany.{LoadedMany}
use Rattle.load_run.specs.declared.plan.ManyPlan.{ManyPlan}
use Rattle.load_figures.specs.Figures.{no_figures}
use Rattle.load_report.specs.Accounts.{site_totals}
use Rattle.load_run.specs.declared.account.Collected.{Collected}
use Rattle.load_run.specs.declared.counted_results.Counting.{Counting}
use Rattle.load_run.specs.Counting.{AddsAll, IsUncounted, Takes, missed_of, warm_of, with_unbegun}
use Rattle.load_run.specs.Logs.{AreLogsOf}
use Rattle.load_run.specs.UrlJobs.{in_turn}

-- number of threads: one for each address, but at most one for each place
abbrev pub workers_of : ManyPlan → ℕ
workers_of plan = min plan.connections (length plan.addresses.items)

-- number of jobs; without a limit, all that can be drawn
abbrev pub jobs_of : Option ℕ → ℕ
jobs_of None = 9223372036854775807
jobs_of (Some jobs) = jobs

-- the rules by which results are counted
abbrev pub counting_of : ManyPlan → Counting
counting_of plan = record { urls = plan.urls; times = plan.times; fails_statuses = plan.fails_statuses }

-- the two parts that a thread hands back: the counter of its results, and its pass
abbrev pub results_of : CountedResults × ℕ × Accounts → CountedResults
results_of back = back.0

abbrev pub pass_of : CountedResults × ℕ × Accounts → Accounts
pass_of back = back.2

-- nothing was collected yet, for `hosts` sites
pub record IsNone (hosts : ℕ) (collected : Collected) : Type 0 where
  pub figures : collected.figures ≡ no_figures hosts
  pub unbegun : collected.unbegun ≡ 0
  pub passes : collected.passes.items ≡ []

-- the same two parts of a finished thread
abbrev pub results_in : {D : Type 0} → Finished D CountedResults → CountedResults
results_in own = own.results

abbrev pub pass_in : {D : Type 0} → Finished D CountedResults → Accounts
pass_in own = own.pass

-- the parts of all threads were collected, the last thread's first
pub record Collects {D : Type 0} (old new : Collected) (workers : List (Finished D CountedResults)) : Type 0 where
  pub figures : AddsAll old.figures (reverse (map (results_in {D = D}) workers)) new.figures
  pub unbegun : new.unbegun ≡ with_unbegun old.unbegun (reverse (map (results_in {D = D}) workers))
  pub passes : new.passes.items ≡ reverse (map (pass_in {D = D}) workers)

-- `workers` threads carried out these jobs in a run over the cache of those names, and no fault ended it. `may_stop` is true
-- of each job that the run may stop, and `is_reading` of each possible reading of its clock. `collected` has the passes of
-- the run, the sum of what its threads counted, and the number of jobs that were stopped before they began.
pub record HasCarriedOut {W : Type 0} (world : World W) (may_stop is_reading : ℕ → Type 0) (names : CacheNames) (job_at : ℕ → ℕ → Job) (jobs workers hosts : ℕ) (counting : Counting) (collected : Collected) (drawn : ℕ) : Type 0 where
  pub begun : List (CountedResults × ℕ)
  pub back : List (CountedResults × ℕ × Accounts)
  pub end : RunEnd
  pub ran : IsManyRun world may_stop names job_at (TakesTimed is_reading Takes) jobs begun back end drawn
  pub sound : is_fault end ≡ false
  pub threads : length begun ≡ workers
  pub uncounted : All (λ (own : CountedResults × ℕ). IsUncounted hosts counting own.0) begun
  pub figures_are : AddsAll (no_figures hosts) (reverse (map results_of back)) collected.figures
  pub unbegun_is : collected.unbegun ≡ with_unbegun 0 (reverse (map results_of back))
  pub passes_are : collected.passes.items ≡ reverse (map pass_of back)

-- the jobs were requests of the plan's URLs, one after another; the plan has at least one URL
pub record HasRun {W : Type 0} (world : World W) (may_stop is_reading : ℕ → Type 0) (names : CacheNames) (plan : ManyPlan) (collected : Collected) (drawn : ℕ) : Type 0 where
  pub otherwise : Job
  pub some : 0 < length plan.urls.now
  pub carried_out : HasCarriedOut world may_stop is_reading names (in_turn plan.each plan.urls.now otherwise) (jobs_of plan.jobs) (workers_of plan) plan.sites (counting_of plan) collected drawn

-- The jobs are those of such a run, and so are the figures. The logs are cut from those of the cache, and the account is
-- that of the cache at its end, with the passes of the run; so is what happened at each site's hosts. The run ended at a reading of its clock, from which the elapsed
-- time and the number of missed jobs are computed.
pub record IsLoadedManyBy {W : Type 0} (world : World W) (may_stop is_reading : ℕ → Type 0) (names : CacheNames) (plan : ManyPlan) (loaded : LoadedMany) : Type 0 where
  pub collected : Collected
  pub ran : HasRun world may_stop is_reading names plan collected loaded.drawn
  pub figures_are : loaded.figures ≡ collected.figures
  pub ended : ℕ
  pub ended_read : is_reading ended
  pub elapsed_is : loaded.elapsed ≡ ended - warm_of plan.times
  pub missed_is : loaded.missed ≡ missed_of plan.times (jobs_of plan.jobs) ended (loaded.drawn - collected.unbegun)
  pub logs_are : AreLogsOf W names loaded.logs.items
  pub gathered_is : IsGathered names collected.passes.items loaded.gathered
  pub hosts_are : loaded.hosts.items ≡ site_totals plan.sites plan.each loaded.gathered.hosts.items

-- and that cache was made under the plan's limits, for the hosts of its sites
pub record IsLoadedMany {W : Type 0} (world : World W) (may_stop is_reading : ℕ → Type 0) (plan : ManyPlan) (loaded : LoadedMany) : Type 0 where
  pub names : CacheNames
  pub planned : IsPlanFor plan.limits (plan.sites * plan.each) names
  pub by_them : IsLoadedManyBy world may_stop is_reading names plan loaded

-- the logs of the hosts of a cache whose connections are those of that world
abbrev pub AreLogsIn : {W : Type 0} → World W → CacheNames → List (Vec Entry) → Type 0
AreLogsIn {W} world names logs = AreLogsOf W names logs
