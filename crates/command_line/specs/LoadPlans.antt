-- The plan of the words after `load`, and the words that are refused.
use Rattle.std.specs.Prelude.{◌≡◌, ◌⊎◌, ◌&&◌, ◌||◌, Bool, true, false, not, List, [], ◌∷◌, map, string_bytes, codes}
use Rattle.std.specs.List.{Any, filter, list_all}
use Rattle.std.specs.Option.{option_map}
use Rattle.clap.specs.Words.{Row, Text}
use Rattle.clap.specs.Walk.{first_of}
use Rattle.command_line.specs.LoadNumbers.{AreFlagsOf, AreLoadOptions, AreNumbersOf, IsNumberRefused, has_urls}
use Rattle.command_line.specs.LoadUrls.{AreBadUrls, ArePlannedUrls, urls_said}
use Rattle.command_line.specs.OptionTable.{OptionFacts, load_options}
use Rattle.command_line.specs.Options.{is_given, is_used, texts_said}
use Rattle.command_line.specs.Resolving.{AreResolved, IsNoResolve}
use Rattle.commands.specs.declared.load_plan.LoadPlan.{LoadPlan}

-- two options exclude each other: URLs and `--sites`, or `--seconds` and `--jobs`
abbrev pub has_conflict : List Row → Bool
has_conflict rows = (has_urls rows && is_given (codes "sites") rows) || (is_given (codes "seconds") rows && is_given (codes "jobs") rows)

-- all options that are given leave a load plain
abbrev pub leaves_plain : List Row → OptionFacts → Bool
leaves_plain rows option = option.is_plain || not (is_used rows option)

abbrev pub is_plain : List Row → Bool
is_plain rows = list_all (leaves_plain rows) load_options

-- the plan of a load has the numbers, flags, URLs and files of the words, a request for each URL, and the addresses of
-- `--resolve`; it is plain if the words have no options but the six numbers and the trace's file
pub record IsLoadPlanOf (rows : List Row) (plan : LoadPlan) : Type 0 where
  pub options_are : AreLoadOptions rows plan.options
  pub agree : has_conflict rows ≡ false
  pub numbers_are : AreNumbersOf rows plan.numbers
  pub flags_are : AreFlagsOf rows plan.flags
  pub urls_are : map string_bytes plan.urls.items ≡ urls_said rows
  pub jobs_are : ArePlannedUrls plan.flags (urls_said rows) plan.jobs.items
  pub hosts_are : AreResolved (texts_said (codes "resolve") rows) plan.resolved.items
  pub trace_is : option_map string_bytes plan.trace ≡ first_of (codes "trace") rows
  pub picture_is : option_map string_bytes plan.picture ≡ first_of (codes "picture") rows
  pub plain_is : plan.is_plain ≡ is_plain rows

-- a number is refused, two options do not go together, there are too many URLs or a bad one, or a value of `--resolve`
-- gives no address
abbrev pub IsLoadRefused : List Row → Type 0
IsLoadRefused rows =
    (IsNumberRefused rows ⊎ (has_conflict rows ≡ true)) ⊎ (AreBadUrls (urls_said rows) ⊎ Any IsNoResolve (texts_said (codes "resolve") rows))

-- the options that leave a load plain are the six numbers and the trace's file
abbrev pub plain_names : List Text
plain_names = map (λ option. option.name) (filter (λ option. option.is_plain) load_options)

abbrev pub SixAndTrace : Type 0
SixAndTrace = plain_names ≡ codes "sites" ∷ codes "jobs" ∷ codes "workers" ∷ codes "host-limit" ∷ codes "total" ∷ codes "connects" ∷ codes "trace" ∷ []
