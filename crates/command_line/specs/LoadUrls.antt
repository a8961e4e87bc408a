-- The URLs of a load, and their jobs.
use Rattle.std.specs.Prelude.{◌≡◌, ◌⊎◌, ◌≤◌, ◌<◌, codes, List, [], ◌∷◌, ◌++◌, length}
use Rattle.std.specs.List.{Any}
use Rattle.clap.specs.Words.{Row, Text}
use Rattle.exchange.specs.declared.job.Job.{Job}
use Rattle.conn_key.specs.Site.{site_of}
use Rattle.conn_key.specs.Sites.{index_or_next, with_site}
use Rattle.conn_key.specs.Target.{GivesTarget}
use Rattle.conn_key.specs.declared.site.Site.{Site}
use Rattle.commands.specs.Urls.{IsBadUrl, IsPrintable}
use Rattle.commands.specs.LoadJob.{url_job}
use Rattle.command_line.specs.Options.{texts_said}
use Rattle.commands.specs.declared.load_settings.LoadFlags.{LoadFlags}

-- the URLs: the values of `--url`, and then the operands
abbrev pub urls_said : List Row → List Text
urls_said rows = texts_said (codes "url") rows ++ texts_said (codes "URL") rows

-- the job of a URL, where these are the sites of the URLs before it
pub record IsUrlJob (flags : LoadFlags) (sites : List Site) (url : Text) (job : Job) : Type 0 where
  pub printable : IsPrintable url
  pub target : GivesTarget url job.target
  pub is_job : job ≡ url_job flags (index_or_next sites (site_of job.target)) job.target

-- the jobs of the URLs, one for each, in order
abbrev pub AreUrlJobs : LoadFlags → List Site → List Text → List Job → Type 0
AreUrlJobs flags sites [] [] = Unit {0}
AreUrlJobs flags sites (url ∷ urls) (job ∷ jobs) =
    IsUrlJob flags sites url job × AreUrlJobs flags (with_site sites (site_of job.target)) urls jobs
AreUrlJobs flags sites _ _ = ⊥

-- there are at most eight URLs, and these are their jobs
pub record ArePlannedUrls (flags : LoadFlags) (urls : List Text) (jobs : List Job) : Type 0 where
  pub few : length urls ≤ 8
  pub are_jobs : AreUrlJobs flags [] urls jobs

-- there are more than eight, or one is bad
abbrev pub AreBadUrls : List Text → Type 0
AreBadUrls urls = (8 < length urls) ⊎ Any IsBadUrl urls
