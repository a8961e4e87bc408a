-- The requests of a load without URLs.
use Rattle.std.specs.Prelude.{◌≡◌, ◌+◌, ◌%◌, ◌++◌, ℕ, codes, List, [], ◌∷◌, length, map, max, string_bytes, slice_index, Option, Some, None}
use Rattle.std.specs.Fmt.{decimal}
use Rattle.exchange.specs.declared.job.Job.{Job}
use Rattle.commands.specs.LoadJob.{url_job}
use Rattle.commands.specs.declared.load_limits.LoadOptions.{LoadOptions}
use Rattle.commands.specs.declared.load_plan.LoadPlan.{LoadPlan}
use Rattle.commands.specs.declared.load_settings.LoadFlags.{LoadFlags}

-- request K is for the path /K at site K modulo the number of sites, on the site's port of 127.0.0.1
pub record IsOwnJob (flags : LoadFlags) (ports : List ℕ) (number : ℕ) (job : Job) : Type 0 where
  pub is_job : job ≡ url_job flags (number % length ports) job.target
  pub host : string_bytes job.target.host ≡ codes "127.0.0.1"
  pub port : job.target.port ≡ slice_index ports (number % length ports)
  pub path : string_bytes job.target.path ≡ codes "/" ++ decimal number

-- requests with consecutive numbers, the first of which is `number`
abbrev pub AreOwnJobs : LoadFlags → List ℕ → ℕ → List Job → Type 0
AreOwnJobs flags ports number [] = Unit {0}
AreOwnJobs flags ports number (job ∷ jobs) = IsOwnJob flags ports number job × AreOwnJobs flags ports (number + 1) jobs

-- the number of requests in the plan: one for each site with `--seconds`; otherwise one for each job, and at least one
-- for each site
abbrev pub own_count : LoadOptions → Option ℕ → ℕ
own_count options (Some seconds) = options.sites
own_count options None = max options.jobs options.sites

-- the URL of the site on that port
abbrev pub own_url : ℕ → List ℕ
own_url port = codes "http://127.0.0.1:" ++ (decimal port ++ codes "/")

-- requests and URLs of the load's own server, on these ports, are added to a plan without URLs
pub record AsksOwn (ports : List ℕ) (old new : LoadPlan) : Type 0 where
  pub options : new.options ≡ old.options
  pub numbers : new.numbers ≡ old.numbers
  pub flags : new.flags ≡ old.flags
  pub resolved : new.resolved ≡ old.resolved
  pub trace : new.trace ≡ old.trace
  pub picture : new.picture ≡ old.picture
  pub plain : new.is_plain ≡ old.is_plain
  pub urls : map string_bytes new.urls.items ≡ map own_url ports
  pub are_own : AreOwnJobs old.flags ports 0 new.jobs.items
  pub count : length new.jobs.items ≡ own_count old.options old.numbers.seconds
