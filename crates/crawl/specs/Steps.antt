-- The calls of a crawler, and the jobs and results of URLs.
use Rattle.std.specs.Prelude.{◌≡◌, false, true, ◌⊎◌, ℕ, List, [], ◌++◌, flat_map, string_bytes, Option, Some, None}
use Rattle.std.specs.List.{All, Contains}
use Rattle.conn_key.specs.Target.{GivesTarget}
use Rattle.conn_log.specs.declared.entry.Want.{Want}
use Rattle.exchange.specs.declared.job.Job.{Job}
use Rattle.run_loop.specs.Taking.{JobResult}
use Rattle.client.specs.Lines.{Text}
use Rattle.commands.specs.Urls.{IsBadText}
use Rattle.crawl.specs.Written.{Written}
use Rattle.crawl.specs.declared.in_flight.InFlight.{InFlight}
use Rattle.commands.specs.declared.crawl_options.CrawlOptions.{CrawlOptions}

-- the request to the cache for the transfer of that number, with the limits of the options
abbrev pub want_of : CrawlOptions → ℕ → Want
want_of options number = record { transfer = number; max_age = options.max_age; max_life = options.max_life; lane = 0; fresh = options.flags.fresh; forbid_reuse = false }

-- the job of a transfer: it has its number and its place, the options' method and limits, and leads to where its URL leads
pub record IsJobOf (options : CrawlOptions) (job : Job) (one : InFlight) : Type 0 where
  pub want : job.want ≡ want_of options one.number
  pub method : job.method ≡ options.method
  pub site : job.site ≡ one.place
  pub target : ∥ GivesTarget (string_bytes one.url) job.target ∥₁

-- one of these jobs belongs to the transfer
pub record HasJob (options : CrawlOptions) (jobs : List Job) (one : InFlight) : Type 0 where
  pub job : Job
  pub among : Contains jobs job
  pub its : IsJobOf options job one

-- the result is one of these, of one of these jobs, which leads to where the URL leads
pub record IsResultOf (options : CrawlOptions) (jobs : List Job) (results : List JobResult) (url : Text) (result : JobResult) : Type 0 where
  pub came : Contains results result
  pub job : Job
  pub among : Contains jobs job
  pub want : job.want ≡ want_of options result.number
  pub method : job.method ≡ options.method
  pub target : ∥ GivesTarget url job.target ∥₁

-- the same for the result of a line; a line without a result is of a bad URL, and only if bad URLs are skipped
abbrev pub IsEndOf : CrawlOptions → List Job → List JobResult → Text → Option JobResult → Type 0
IsEndOf options jobs results url None = (options.flags.skip_bad ≡ true) × ∥ IsBadText url ∥₁
IsEndOf options jobs results url (Some result) = IsResultOf options jobs results url result

abbrev pub IsOfResult : CrawlOptions → List Job → List JobResult → Written → Type 0
IsOfResult options jobs results line = IsEndOf options jobs results line.url line.ended

-- a call that begins jobs, and its results, the newest first
pub record CrawlCall (K : Type 0) : Type 0 where
  pub before : K
  pub after : K
  pub jobs : List Job
  pub results : List JobResult

abbrev pub jobs_in : {K : Type 0} → CrawlCall K → List Job
jobs_in call = call.jobs

abbrev pub results_in : {K : Type 0} → CrawlCall K → List JobResult
results_in call = call.results

abbrev pub IsMade : {K : Type 0} → (K → K → List Job → List JobResult → Type 0) → CrawlCall K → Type 0
IsMade crawled call = crawled call.before call.after call.jobs call.results

-- all calls together began these jobs, and had these results, the newest first
pub record HasCrawled {K : Type 0} (crawled : K → K → List Job → List JobResult → Type 0) (jobs : List Job) (results : List JobResult) : Type 0 where
  pub calls : List (CrawlCall K)
  pub made : All (IsMade crawled) calls
  pub jobs_are : jobs ≡ flat_map (jobs_in {K = K}) calls
  pub results_are : results ≡ flat_map (results_in {K = K}) calls

-- the same, with the results of the call that finishes
pub record HasFinished {K : Type 0} (crawled : K → K → List Job → List JobResult → Type 0) (finished : K → List JobResult → Type 0) (jobs : List Job) (results : List JobResult) : Type 0 where
  pub before : List JobResult
  pub ran : HasCrawled crawled jobs before
  pub crawler : K
  pub rest : List JobResult
  pub finishes : finished crawler rest
  pub results_are : results ≡ rest ++ before

-- the same, or there was no call
abbrev pub HasRun : {K : Type 0} → (K → K → List Job → List JobResult → Type 0) → (K → List JobResult → Type 0) → List Job → List JobResult → Type 0
HasRun crawled finished jobs results = ((jobs ≡ []) × (results ≡ [])) ⊎ HasFinished crawled finished jobs results
