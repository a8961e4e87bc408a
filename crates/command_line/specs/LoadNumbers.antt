-- The numbers and flags of the words after `load`.
use Rattle.std.specs.Prelude.{◌≡◌, ◌⊎◌, ◌*◌, ◌||◌, ℕ, Bool, true, false, min, List, Option, None, Some, codes, unwrap_or, if◌then◌else◌}
use Rattle.std.specs.Option.{option_or}
use Rattle.clap.specs.Words.{Row}
use Rattle.command_line.specs.OptionTable.{load_options}
use Rattle.command_line.specs.Options.{flag_said, has_bad, is_given, is_outside, number_said}
use Rattle.commands.specs.declared.load_limits.LoadOptions.{LoadOptions}
use Rattle.commands.specs.declared.load_settings.LoadFlags.{LoadFlags}
use Rattle.commands.specs.declared.load_settings.LoadNumbers.{LoadNumbers}
use Rattle.command_line.specs.declared.options.Takes.TheVariants.{Number, Percent, Seconds}

-- a URL is given, by an option or as an operand
abbrev pub has_urls : List Row → Bool
has_urls rows = is_given (codes "url") rows || is_given (codes "URL") rows

-- the maximum number of jobs: more with URLs or seconds
abbrev pub most_jobs : List Row → ℕ
most_jobs rows = if has_urls rows || is_given (codes "seconds") rows then 4294967295 else 10000

abbrev pub has_bad_jobs : List Row → Bool
has_bad_jobs rows = is_outside (codes "jobs") Number 1 (most_jobs rows) rows

-- the default number of idle connections: 65,535 with `--seconds`; otherwise four for each job, as CURLMOPT_MAXCONNECTS of
-- libcurl has it for each transfer, and at most 65,535
abbrev pub default_connects : List Row → ℕ → ℕ
default_connects rows jobs = if is_given (codes "seconds") rows then 65535 else min (4 * jobs) 65535

-- the six numbers that the words give. The defaults are 2 sites, 20 jobs, 4 workers, no limits, and the default number of
-- idle connections
pub record AreLoadOptions (rows : List Row) (options : LoadOptions) : Type 0 where
  pub numbers_good : has_bad load_options rows ≡ false
  pub jobs_good : has_bad_jobs rows ≡ false
  pub sites_is : options.sites ≡ unwrap_or (number_said (codes "sites") Number 1 8 rows) 2
  pub jobs_is : options.jobs ≡ unwrap_or (number_said (codes "jobs") Number 1 (most_jobs rows) rows) 20
  pub workers_is : options.workers ≡ unwrap_or (number_said (codes "workers") Number 1 64 rows) 4
  pub host_limit_is : options.host_limit ≡ unwrap_or (number_said (codes "host-limit") Number 0 65535 rows) 0
  pub total_is : options.total ≡ unwrap_or (number_said (codes "total") Number 0 65535 rows) 0
  pub connects_is : options.connects ≡ unwrap_or (number_said (codes "connects") Number 1 65535 rows) (default_connects rows options.jobs)

abbrev pub IsNumberRefused : List Row → Type 0
IsNumberRefused rows = (has_bad_jobs rows ≡ true) ⊎ (has_bad load_options rows ≡ true)

-- the other numbers; without them no warm-up, and a request for a URL may take 30 seconds
abbrev pub default_timeout : List Row → Option ℕ
default_timeout rows = if has_urls rows then Some 30 else None

pub record AreNumbersOf (rows : List Row) (numbers : LoadNumbers) : Type 0 where
  pub connections_is : numbers.connections ≡ number_said (codes "connections") Number 1 1024 rows
  pub seconds_is : numbers.seconds ≡ number_said (codes "seconds") Seconds 1 86400 rows
  pub warmup_is : numbers.warmup ≡ unwrap_or (number_said (codes "warmup") Seconds 0 3600 rows) 0
  pub rate_is : numbers.rate ≡ number_said (codes "rate") Number 1 1000000 rows
  pub timeout_is : numbers.timeout ≡ option_or (number_said (codes "timeout") Seconds 1 3600 rows) (default_timeout rows)
  pub fail_above_is : numbers.fail_above ≡ number_said (codes "fail-above") Percent 0 10000 rows

-- the flags
pub record AreFlagsOf (rows : List Row) (flags : LoadFlags) : Type 0 where
  pub head_is : flags.head ≡ flag_said (codes "head") rows
  pub forbid_reuse_is : flags.forbid_reuse ≡ flag_said (codes "forbid-reuse") rows
  pub fail_is : flags.fail ≡ flag_said (codes "fail") rows
  pub json_is : flags.json ≡ flag_said (codes "json") rows
  pub quiet_is : flags.quiet ≡ flag_said (codes "quiet") rows
  pub no_progress_is : flags.no_progress ≡ flag_said (codes "no-progress") rows
