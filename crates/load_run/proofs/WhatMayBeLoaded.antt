-- What a load with many jobs at once leaves, by what its run and its account leave.
use Rattle.std.proofs.Common.{◌≡◌, subst, sym, ℕ, ◌-◌, ◌*◌, ◌<◌, List, length, Result, Ok, Err, IfOk}
use Rattle.exchange.specs.declared.job.Job.{Job}
use Rattle.exchange.specs.Worlds.{World}
use Rattle.shared_cache.specs.Names.{CacheNames, IsPlanFor}
use Rattle.shared_cache.specs.Gathering.{IsGathered}
use Rattle.load_report.specs.Accounts.{site_totals}
use Rattle.load_run.specs.declared.account.Collected.{Collected}
use Rattle.load_run.specs.declared.error.LoadError.{LoadError}
use Rattle.load_run.specs.declared.loading.LoadedMany.{LoadedMany}
use Rattle.load_run.specs.declared.loading.Ran.{Ran}
use Rattle.load_run.specs.declared.plan.LoadTimes.{LoadTimes}
use Rattle.load_run.specs.declared.plan.ManyPlan.{ManyPlan}
use Rattle.load_run.specs.Counting.{missed_of, warm_of}
use Rattle.load_run.specs.ManyLoads.{AreLogsIn, HasCarriedOut, HasRun, IsLoadedMany, IsLoadedManyBy, counting_of, jobs_of, workers_of}
use Rattle.load_run.specs.Stopping.{MayStop}
use Rattle.load_run.specs.UrlJobs.{in_turn}

-- the times and the watcher by which a job may be stopped are those of the load
pub may_stop_by : {W V : Type 0} (world : World W) (is_reading : ℕ → Type 0) (names : CacheNames) (plan : ManyPlan) (may_end : V → Type 0) (times own_times : LoadTimes) (watch own_watch : V) (result : Result LoadedMany LoadError) → times ≡ own_times → watch ≡ own_watch
    → IfOk result (IsLoadedManyBy world (λ number. MayStop times (may_end watch)) is_reading names plan) → IfOk result (IsLoadedManyBy world (λ number. MayStop own_times (may_end own_watch)) is_reading names plan)
may_stop_by world is_reading names plan may_end times own_times watch own_watch result same_times same_watch by =
    subst (λ (t : LoadTimes). IfOk result (IsLoadedManyBy world (λ number. MayStop t (may_end own_watch)) is_reading names plan)) same_times
    (subst (λ (w : _). IfOk result (IsLoadedManyBy world (λ number. MayStop times (may_end w)) is_reading names plan)) same_watch by)

module _ {W : Type 0} (world : World W) (may_stop is_reading : ℕ → Type 0) (names : CacheNames) (plan : ManyPlan) where
  pub has_run : (each : ℕ) (urls : List Job) (otherwise : Job) (jobs workers : ℕ) (collected : Collected) (drawn : ℕ) → each ≡ plan.each → urls ≡ plan.urls.now → 0 < length urls → jobs ≡ jobs_of plan.jobs → workers ≡ workers_of plan
      → HasCarriedOut world may_stop is_reading names (in_turn each urls otherwise) jobs workers plan.sites (counting_of plan) collected drawn → HasRun world may_stop is_reading names plan collected drawn
  has_run each urls otherwise jobs workers collected drawn apart same some all many carried_out = record {
    otherwise = otherwise;
    some = subst (λ (list : List Job). 0 < length list) same some;
    carried_out = subst (λ (list : List Job). HasCarriedOut world may_stop is_reading names (in_turn plan.each list otherwise) (jobs_of plan.jobs) (workers_of plan) plan.sites (counting_of plan) collected drawn) same
        (subst (λ (n : ℕ). HasCarriedOut world may_stop is_reading names (in_turn plan.each urls otherwise) (jobs_of plan.jobs) n plan.sites (counting_of plan) collected drawn) many
        (subst (λ (n : ℕ). HasCarriedOut world may_stop is_reading names (in_turn plan.each urls otherwise) n workers plan.sites (counting_of plan) collected drawn) all
        (subst (λ (n : ℕ). HasCarriedOut world may_stop is_reading names (in_turn n urls otherwise) jobs workers plan.sites (counting_of plan) collected drawn) apart carried_out)));
  }

  pub loaded_many_by : (ran : Ran) (jobs : ℕ) (result : Result LoadedMany LoadError) → jobs ≡ jobs_of plan.jobs → HasRun world may_stop is_reading names plan ran.collected ran.drawn → is_reading ran.ended → IfOk result (λ loaded. loaded.drawn ≡ ran.drawn)
      → IfOk result (λ loaded. loaded.figures ≡ ran.collected.figures) → IfOk result (λ loaded. loaded.elapsed ≡ ran.ended - warm_of plan.times)
      → IfOk result (λ loaded. loaded.missed ≡ missed_of plan.times jobs ran.ended (ran.drawn - ran.collected.unbegun)) → IfOk result (λ loaded. AreLogsIn world names loaded.logs.items)
      → IfOk result (λ loaded. IsGathered names ran.collected.passes.items loaded.gathered)
      → IfOk result (λ loaded. loaded.hosts.items ≡ site_totals plan.sites plan.each loaded.gathered.hosts.items) → IfOk result (IsLoadedManyBy world may_stop is_reading names plan)
  loaded_many_by ran jobs (Ok loaded) all has ended drawn figures elapsed missed logs gathered hosts = record {
    collected = ran.collected;
    ran = subst (λ (n : ℕ). HasRun world may_stop is_reading names plan ran.collected n) (sym drawn) has;
    figures_are = figures;
    ended = ran.ended;
    ended_read = ended;
    elapsed_is = elapsed;
    missed_is = rw (drawn, sym all) missed;
    logs_are = logs;
    gathered_is = gathered;
    hosts_are = hosts;
  }
  loaded_many_by ran jobs (Err error) all has ended drawn figures elapsed missed logs gathered hosts = tt

  pub loaded_many : (result : Result LoadedMany LoadError) → IsPlanFor plan.limits (plan.sites * plan.each) names → IfOk result (IsLoadedManyBy world may_stop is_reading names plan) → IfOk result (IsLoadedMany world may_stop is_reading plan)
  loaded_many (Ok loaded) planned by = record { names = names; planned = planned; by_them = by }
  loaded_many (Err error) planned by = tt
