-- The plan of the words after `get`, and the words that are refused.
use Rattle.std.specs.Prelude.{◌≡◌, ◌⊎◌, true, false, List, [], string_bytes, Option, None, codes, unwrap_or}
use Rattle.std.specs.List.{All, Any}
use Rattle.std.specs.Option.{option_map}
use Rattle.clap.specs.Words.{Row, Text}
use Rattle.clap.specs.Walk.{first_of}
use Rattle.conn_log.specs.Wants.{default_max_age}
use Rattle.conn_key.specs.Target.{GivesTarget}
use Rattle.conn_key.specs.declared.target.Target.{Target}
use Rattle.commands.specs.Given.{url_texts}
use Rattle.commands.specs.Urls.{IsBadUrl, IsPrintable}
use Rattle.commands.specs.declared.crawl_options.CrawlFlags.{CrawlFlags}
use Rattle.commands.specs.declared.crawl_options.CrawlOptions.{CrawlOptions}
use Rattle.command_line.specs.Inputs.{asked_file}
use Rattle.commands.specs.LoadJob.{method_said}
use Rattle.command_line.specs.OptionTable.{get_options}
use Rattle.command_line.specs.Options.{flag_said, has_bad, number_said, texts_said}
use Rattle.command_line.specs.Resolving.{AreResolved, IsNoResolve}
use Rattle.commands.specs.declared.crawl_plan.CrawlPlan.{CrawlPlan}
use Rattle.command_line.specs.declared.options.Takes.TheVariants.{Number, Seconds}

abbrev pub flags_said : List Row → CrawlFlags
flags_said rows = record {
  fresh = flag_said (codes "fresh") rows;
  skip_bad = flag_said (codes "skip-bad") rows;
  fail = flag_said (codes "fail") rows;
  json = flag_said (codes "json") rows;
}

-- the options that the words give. The defaults are one transfer in flight, no limits, reuse of connections idle for at
-- most the default age of libcurl, at any lifetime, and a time limit of 30 seconds
pub record AreOptionsOf (rows : List Row) (options : CrawlOptions) : Type 0 where
  pub method_is : options.method ≡ method_said (flag_said (codes "head") rows)
  pub parallel_is : options.parallel ≡ unwrap_or (number_said (codes "parallel") Number 1 256 rows) 1
  pub host_limit_is : options.host_limit ≡ unwrap_or (number_said (codes "host-limit") Number 0 65535 rows) 0
  pub total_is : options.total ≡ unwrap_or (number_said (codes "total") Number 0 65535 rows) 0
  pub max_age_is : options.max_age ≡ unwrap_or (number_said (codes "max-age") Seconds 0 18446744073709551615 rows) default_max_age
  pub max_life_is : options.max_life ≡ unwrap_or (number_said (codes "max-life") Seconds 0 18446744073709551615 rows) 0
  pub timeout_is : options.timeout ≡ unwrap_or (number_said (codes "timeout") Seconds 1 3600 rows) 30
  pub flags_are : options.flags ≡ flags_said rows

-- a URL that can be fetched: it is printable, and leads to a target
abbrev pub IsGoodUrl : Text → Type 0
IsGoodUrl url = IsPrintable url × ((target : Target) × GivesTarget url target)

-- there is neither a URL nor a file of them
abbrev pub NamesNone : List Row → Type 0
NamesNone rows = (texts_said (codes "URL") rows ≡ []) × (first_of (codes "file") rows ≡ None)

-- the plan has the options, URLs, file and addresses of the words; each number is in its range, there is a URL or a file,
-- and each URL is good if bad ones are not skipped
pub record IsPlanOf (rows : List Row) (plan : CrawlPlan) : Type 0 where
  pub numbers_good : has_bad get_options rows ≡ false
  pub options_are : AreOptionsOf rows plan.options
  pub urls_are : url_texts plan.urls.items ≡ texts_said (codes "URL") rows
  pub file_is : option_map string_bytes plan.file ≡ first_of (codes "file") rows
  pub resolved_are : AreResolved (texts_said (codes "resolve") rows) plan.resolved.items
  pub some : NamesNone rows → ⊥
  pub good : flag_said (codes "skip-bad") rows ≡ false → All IsGoodUrl (texts_said (codes "URL") rows)

-- the name of the file that a plan reads URLs from; none if there is no file, or if it is standard input
abbrev pub plan_file : CrawlPlan → Option Text
plan_file plan = asked_file (option_map string_bytes plan.file)

-- a URL is bad, and bad ones are not skipped
abbrev pub HasBadUrl : List Row → Type 0
HasBadUrl rows = (flag_said (codes "skip-bad") rows ≡ false) × Any IsBadUrl (texts_said (codes "URL") rows)

-- a number is out of its range, there is neither a URL nor a file, a URL is bad that is not skipped, or a value of
-- `--resolve` gives no address
abbrev pub IsGetRefused : List Row → Type 0
IsGetRefused rows =
    ((has_bad get_options rows ≡ true) ⊎ NamesNone rows) ⊎ (HasBadUrl rows ⊎ Any IsNoResolve (texts_said (codes "resolve") rows))
