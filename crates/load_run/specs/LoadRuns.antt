-- Loads: the plan of the run, its report and its status.
use Rattle.std.specs.Prelude.{◌≡◌, ◌≢◌, ◌⊎◌, ◌↔◌, ◌&&◌, ◌==◌, not, nat_le, if◌then◌else◌, is_some, ◌+◌, ◌*◌, ◌<◌, ℕ, zero, suc, Bool, IsTrue, false, List, [], flat_map, length, map, string_bytes, unwrap_or, ⊤, Option, None, Some}
use Rattle.std.specs.List.{All}
use Rattle.std.specs.Option.{option_map}
use Rattle.mio.specs.declared.net.stream.TcpStream.{TcpStream as MioStream}
use Rattle.clap.specs.Words.{Text}
use Rattle.budget.specs.Limits.{bounds_of}
use Rattle.load_report.specs.Accounts.{lines_text, report_text}
use Rattle.load_report.specs.declared.account_sums.JobSums.{JobSums}
use Rattle.driver.specs.ManyWork.{told_of}
use Rattle.exchange.specs.Worlds.{World, world_of}
use Rattle.exchange.specs.declared.done.Done.{Done}
use Rattle.load_figures.specs.Counts.{capped}
use Rattle.load_figures.specs.declared.job_counts.JobCounts.{JobCounts}
use Rattle.load_run.specs.ManyLoads.{IsLoadedMany}
use Rattle.load_run.specs.Stopping.{MayStop}
use Rattle.load_run.specs.declared.loading.LoadedMany.{LoadedMany}
use Rattle.load_run.specs.declared.pace.Rate.{Rate}
use Rattle.load_run.specs.declared.plan.ManyPlan.{ManyPlan}
use Rattle.socket.specs.Sockets.{IsUntouched}
use Rattle.socket.specs.Streams.{HappensOver}
use Rattle.socket.specs.declared.addresses.Addresses.{Addresses}
use Rattle.socket.specs.declared.polled.PolledWire.{PolledWire}
use Rattle.load_run.specs.LoadJobs.{AsksOwn}
use Rattle.load_run.specs.LoadSites.{AreAllBelow, AreLocated, IsNameIn}
use Rattle.load_run.specs.LoadStatuses.{load_status}
use Rattle.commands.specs.declared.load_limits.LoadOptions.{LoadOptions}
use Rattle.load_run.specs.declared.load.outcome.LoadOutcome.{LoadOutcome}
use Rattle.commands.specs.declared.load_plan.LoadPlan.{LoadPlan}

-- polled sockets, whose bytes no contract restricts, and a clock, whose readings no contract restricts
abbrev pub polled_world : World (PolledWire MioStream)
polled_world = world_of (λ wire site transfer. IsUntouched wire.connection site transfer) (λ old new happening. HappensOver (λ _. None) (λ _. None) old.connection new.connection old.stream new.stream happening) (λ moment. ⊤)

-- number of jobs; none with `--seconds`
abbrev pub jobs_planned : LoadOptions → Option ℕ → Option ℕ
jobs_planned options None = Some options.jobs
jobs_planned options (Some seconds) = None

-- requests per second, if there is a rate
abbrev pub per_second : Option Rate → Option ℕ
per_second rate = option_map (λ (one : Rate). one.in_second) rate

abbrev pub positive : Option ℕ → Option ℕ
positive None = None
positive (Some zero) = None
positive (Some (suc number)) = Some (suc number)

-- no limit keeps a load from opening connections, or from keeping them all
abbrev pub is_unlimited : LoadPlan → Bool
is_unlimited plan =
    (plan.options.host_limit == 0) && ((plan.options.total == 0)
    && nat_le (unwrap_or plan.numbers.connections plan.options.workers) plan.options.connects)

-- number of hosts that each site has in the cache: one for each thread if the load is unlimited, has URLs and no trace, and
-- needs at most 1,024 hosts; otherwise one
abbrev pub hosts_each : LoadPlan → ℕ → ℕ
hosts_each plan sites =
    if nat_le (sites * plan.options.workers) 1024 && (is_unlimited plan && (not (is_some plan.trace) && not (length plan.urls.items == 0)))
    then plan.options.workers else 1

-- The run follows the plan from the command line, field by field. For each thread, each host has the addresses of its site,
-- and each site of the plan has hosts.
pub record IsManyPlanOf (plan : LoadPlan) (many : ManyPlan) : Type 0 where
  pub limits : many.limits ≡ bounds_of plan.options.host_limit plan.options.total plan.options.connects
  pub urls : many.urls.now ≡ plan.jobs.items
  pub jobs : many.jobs ≡ jobs_planned plan.options plan.numbers.seconds
  pub threads : length many.addresses.items ≡ plan.options.workers
  pub sites : AreAllBelow many.sites plan.jobs.items
  pub each : many.each ≡ hosts_each plan many.sites
  pub located : All (λ (own : Addresses). AreLocated many.each plan.jobs.items plan.resolved.items own.hosts.items) many.addresses.items
  pub all_located : All (λ (own : Addresses). length own.hosts.items ≡ many.sites * many.each) many.addresses.items
  pub connections : many.connections ≡ unwrap_or plan.numbers.connections plan.options.workers
  pub seconds : many.times.seconds ≡ plan.numbers.seconds
  pub warmup : many.times.warmup ≡ plan.numbers.warmup
  pub timeout : many.times.timeout ≡ plan.numbers.timeout
  pub rate : per_second many.times.rate ≡ positive plan.numbers.rate
  pub fails : many.fails_statuses ≡ plan.flags.fail

-- a load ran by the plan, and has these results
pub record RunsMany {W : Type 0} (world : World W) (plan : LoadPlan) (loaded : LoadedMany) : Type 0 where
  pub many : ManyPlan
  pub planned : IsManyPlanOf plan many
  pub is_loaded : IsLoadedMany world (λ number. MayStop many.times ⊤) (λ moment. ⊤) many loaded

-- how jobs ended, without their numbers
abbrev pub ends_in : List (ℕ × Done) → List Done
ends_in results = map (λ (result : ℕ × Done). result.1) results

-- how all requests of a load ended, thread by thread
abbrev pub results_in : {W : Type 0} (world : World W) (plan : LoadPlan) (loaded : LoadedMany) → RunsMany world plan loaded → List Done
results_in world plan loaded ran = ends_in (flat_map told_of ran.is_loaded.by_them.ran.carried_out.ran.all_work)

-- the numbers of the line `jobs`
abbrev pub job_sums : JobCounts → JobSums
job_sums counts = record { jobs = capped (counts.good + counts.failed); failed = counts.failed; reused = counts.reused; retried = counts.retried; bytes = counts.bytes }

-- the report without JSON: a line for each site, one for all sites, and one for the requests
abbrev pub load_lines : LoadedMany → Text
load_lines loaded = lines_text loaded.hosts.items (job_sums loaded.figures.all)

-- more than that many hundredths of a percent of the requests failed
abbrev pub FailsAbove : Option ℕ → JobCounts → Type 0
FailsAbove None counts = ⊥
FailsAbove (Some hundredths) counts = capped (counts.good + counts.failed) * hundredths < counts.failed * 10000

-- the status by the results alone
pub record IsResultStatus (plan : LoadPlan) (counts : JobCounts) (status : ℕ) : Type 0 where
  pub fails : Bool
  pub above : IsTrue fails ↔ FailsAbove plan.numbers.fail_above counts
  pub status_is : status ≡ load_status plan.is_plain fails counts.good

-- the report and the status follow from the results
pub record IsOutcomeOf (plan : LoadPlan) (loaded : LoadedMany) (outcome : LoadOutcome) : Type 0 where
  pub report_is : plan.flags.json ≡ false → string_bytes outcome.report ≡ load_lines loaded
  pub status_is : IsResultStatus plan loaded.figures.all outcome.status

-- The same after the files were written. A status of 0 may become 4, and any status 130.
pub record IsLoadOutcomeOf (plan : LoadPlan) (loaded : LoadedMany) (outcome : LoadOutcome) : Type 0 where
  pub report_is : plan.flags.json ≡ false → string_bytes outcome.report ≡ load_lines loaded
  pub by_results : ℕ
  pub results_are : IsResultStatus plan loaded.figures.all by_results
  pub status_is : (outcome.status ≡ by_results) ⊎ ((by_results ≡ 0) × (outcome.status ≡ 4)) ⊎ (outcome.status ≡ 130)

-- a load without a warm-up and a duration counted fewer or more good and failed jobs than the plan has
abbrev pub lacks_jobs : LoadPlan → LoadedMany → Bool
lacks_jobs plan loaded =
    not (is_some plan.numbers.seconds) && ((plan.numbers.warmup == 0)
    && not (capped (loaded.figures.all.good + loaded.figures.all.failed) == plan.options.jobs))

-- the load is not interrupted, and its figures exclude no result: it has no warm-up and no duration, and no status is a
-- failure
pub record CountsAll (plan : LoadPlan) (outcome : LoadOutcome) : Type 0 where
  pub whole : outcome.status ≢ 130
  pub no_duration : plan.numbers.seconds ≡ None
  pub no_warmup : plan.numbers.warmup ≡ 0
  pub no_fail : plan.flags.fail ≡ false

-- A load ran by the plan, and has this outcome. If it lacks jobs, its status is 130. If it counts all results, its report
-- is the report of all results.
pub record ReportsRun {W : Type 0} (world : World W) (plan : LoadPlan) (outcome : LoadOutcome) : Type 0 where
  pub loaded : LoadedMany
  pub ran : RunsMany world plan loaded
  pub outcome_is : IsLoadOutcomeOf plan loaded outcome
  pub whole : outcome.status ≢ 130 → lacks_jobs plan loaded ≡ false
  pub of_results : CountsAll plan outcome → plan.flags.json ≡ false
      → string_bytes outcome.report ≡ report_text loaded.hosts.items (results_in world plan loaded ran)

-- the host of one of the plan's jobs is a name without an address by `--resolve`
abbrev pub IsUnknownSite : LoadPlan → Text → Type 0
IsUnknownSite plan host = IsNameIn plan.jobs.items plan.resolved.items host

-- the load did not begin, since the system does not know a host
pub record IsUnknownHost (plan : LoadPlan) (outcome : LoadOutcome) : Type 0 where
  pub host : Text
  pub unknown : IsUnknownSite plan host
  pub no_report : string_bytes outcome.report ≡ []
  pub status_is : outcome.status ≡ 4

-- The plan that runs. A plan without URLs gets the requests of the load's own server, which has a port for each site.
abbrev pub IsUsedPlan : LoadPlan → LoadPlan → Type 0
IsUsedPlan given used =
    ((given.urls.items ≢ []) × (used ≡ given))
    ⊎ ((given.urls.items ≡ []) × (ports : List ℕ) × (length ports ≡ given.options.sites) × AsksOwn ports given used)

-- the outcome of a load
pub record ReportsLoad {W : Type 0} (world : World W) (given : LoadPlan) (outcome : LoadOutcome) : Type 0 where
  pub used : LoadPlan
  pub used_is : IsUsedPlan given used
  pub ended : IsUnknownHost used outcome ⊎ ReportsRun world used outcome
