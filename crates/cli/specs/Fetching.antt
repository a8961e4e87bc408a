-- The subcommand `get`.
use Rattle.std.specs.Option.{option_map}
use Rattle.std.specs.Prelude.{◌≡◌, ◌⊎◌, ◌==◌, ℕ, Option, Some, None, List, string_bytes, if◌then◌else◌}
use Rattle.clap.specs.Words.{Text}
use Rattle.crawl.specs.Crawling.{CrawlGiven, Crawls}
use Rattle.commands.specs.Given.{url_texts}
use Rattle.crawl.specs.declared.crawl.Crawled.{Crawled}
use Rattle.crawl.specs.declared.fault.CrawlFault.{CrawlFault}
use Rattle.crawl.specs.declared.fault.CrawlFault.TheVariants as faults
use Rattle.commands.specs.declared.crawl_options.UrlFile.{UrlFile}
use Rattle.commands.specs.declared.crawl_options.UrlFile.TheVariants as files
use Rattle.exchange.specs.declared.job.Job.{Job}
use Rattle.run_loop.specs.Taking.{JobResult}
use Rattle.streams.specs.Streams.{Stream}
use Rattle.cli.specs.Auditing.{Opening}
use Rattle.command_line.specs.GetPlans.{plan_file}
use Rattle.command_line.specs.Inputs.{asked_file}
use Rattle.commands.specs.declared.crawl_plan.CrawlPlan.{CrawlPlan}

-- 0 if each URL has a good response and its line, 2 if a bad URL ended the crawl, else 4
abbrev pub status_by : Option CrawlFault → ℕ → ℕ
status_by None failed = if failed == 0 then 0 else 4
status_by (Some (faults.BadUrl line)) failed = 2
status_by (Some fault) failed = 4

abbrev pub crawl_status : Crawled → ℕ
crawl_status crawled = status_by crawled.fault crawled.tally.failed

-- standard input is read only if it is the plan's file
abbrev pub ReadsIfAsked : Option Text → Stream → Stream → Type 0
ReadsIfAsked None unread left = left ≡ unread
ReadsIfAsked (Some name) unread left = asked_file (Some name) ≡ Some name → left ≡ unread

-- a crawl has a file exactly if the plan names one
abbrev pub IsKindOf : Option Text → UrlFile → Type 0
IsKindOf None kind = kind ≡ files.None
IsKindOf (Some name) kind = (kind ≡ files.Regular) ⊎ (kind ≡ files.Waiting)

-- the bytes of standard input, or of the file of that name as it was opened, if they are known
abbrev pub AreBytesOf : Opening → Option Text → Stream → Option (List ℕ) → Type 0
AreBytesOf Opens None unread bytes = bytes ≡ unread.bytes
AreBytesOf Opens (Some name) unread bytes = (stream : Stream) × Opens name (Some stream) × (bytes ≡ stream.bytes)

-- the bytes of the plan's file, if it names one
abbrev pub AreFileBytes : Opening → Option Text → Stream → Option (List ℕ) → Type 0
AreFileBytes Opens None unread bytes = Unit {0}
AreFileBytes Opens (Some name) unread bytes = AreBytesOf Opens (asked_file (Some name)) unread bytes

-- the input of a plan's crawl: its options, its URLs, and a file of that kind, with those bytes
abbrev pub given_by : CrawlPlan → UrlFile → Option (List ℕ) → CrawlGiven
given_by plan kind bytes = record { options = plan.options; file = kind; words = url_texts plan.urls.items; bytes = bytes }

-- runs a crawl, and returns the status for its result
pub record RunsCrawl {K : Type 0} (crawled : K → K → List Job → List JobResult → Type 0) (finished : K → List JobResult → Type 0) (given : CrawlGiven) (old new : Stream) (status : ℕ) : Type 0 where
  pub result : Crawled
  pub crawls : Crawls crawled finished given old new result
  pub ends : status ≡ crawl_status result

-- the file that the plan names cannot be opened: nothing is written
pub record IsUnopened (Opens : Opening) (file : Option Text) (old new : Stream) (status : ℕ) : Type 0 where
  pub name : Text
  pub named : file ≡ Some name
  pub opens : Opens name None
  pub unwritten : new ≡ old
  pub ends : status ≡ 4

-- carries out a plan: crawls its URLs and then its file with its options, unless the file cannot be opened
pub record RunsGet {K : Type 0} (crawled : K → K → List Job → List JobResult → Type 0) (finished : K → List JobResult → Type 0) (Opens : Opening) (plan : CrawlPlan) (unread left old new : Stream) (status : ℕ) : Type 0 where
  pub reads : ReadsIfAsked (option_map string_bytes plan.file) unread left
  pub runs : ((kind : UrlFile) × (bytes : Option (List ℕ)) × IsKindOf (option_map string_bytes plan.file) kind × AreFileBytes Opens (option_map string_bytes plan.file) unread bytes
      × RunsCrawl crawled finished (given_by plan kind bytes) old new status)
      ⊎ IsUnopened Opens (plan_file plan) old new status
