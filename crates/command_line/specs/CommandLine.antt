-- The program's command line, and the requests that words make.
use Rattle.std.specs.Prelude.{◌≡◌, ◌⊎◌, ℕ, Bool, true, List, [], ◌∷◌, ◌++◌, codes, map, string_bytes, Option, Some, None, if◌then◌else◌}
use Rattle.std.specs.Str.{bytes_eq}
use Rattle.clap.specs.Words.{App, Kinds, IsAmong, Row, Text, fault_of, new_app, subcommand_of, with_subcommand}
use Rattle.clap.specs.Walk.{first_of}
use Rattle.clap.specs.declared.error.kind.ErrorKind.{ErrorKind}
use Rattle.clap.specs.declared.error.kind.ErrorKind.TheVariants as kinds
use Rattle.streams.specs.RisingCounts.{Rises}
use Rattle.command_line.specs.GetPlans.{IsGetRefused, IsPlanOf, plan_file}
use Rattle.command_line.specs.Inputs.{AreAuditWords, AreScriptWords, asked_file, file_of, name_of}
use Rattle.command_line.specs.LoadPlans.{IsLoadPlanOf, IsLoadRefused}
use Rattle.command_line.specs.OptionTable.{OptionFacts, audit_options, get_options, load_options, script_options}
use Rattle.command_line.specs.Options.{command_app}
use Rattle.command_line.specs.declared.audit_words.AuditWords.{AuditWords}
use Rattle.commands.specs.declared.crawl_plan.CrawlPlan.{CrawlPlan}
use Rattle.commands.specs.declared.load_plan.LoadPlan.{LoadPlan}
use Rattle.command_line.specs.declared.script_words.ScriptWords.{ScriptWords}
use Rattle.command_line.specs.declared.request.ErrorClass.{ErrorClass}
use Rattle.command_line.specs.declared.request.ErrorClass.TheVariants as classes
use Rattle.command_line.specs.declared.request.Request.{Request}
use Rattle.command_line.specs.declared.request.Request.TheVariants as requests
use Rattle.command_line.specs.declared.words.Words.{Words}
use Rattle.command_line.specs.declared.words.Words.TheVariants.{Given, NotText, NoMemory}

-- curlpool has a version and no help subcommand, and needs one of its four subcommands. The one that the first word names
-- has the options of its table
abbrev pub needing_a_subcommand : App → App
needing_a_subcommand app = record app { top = record app.top { has_version = true; subcommand_required = true; disable_help_subcommand = true } }

abbrev pub options_if : Bool → List OptionFacts → List OptionFacts
options_if is_named options = if is_named then options else []

abbrev pub curlpool_with : Bool → Bool → Bool → Bool → App
curlpool_with is_script is_get is_load is_audit =
    with_subcommand (with_subcommand (with_subcommand (with_subcommand (needing_a_subcommand (new_app (codes "curlpool")))
    (command_app (codes "script") (options_if is_script script_options)).top) (command_app (codes "get") (options_if is_get get_options)).top)
    (command_app (codes "load") (options_if is_load load_options)).top) (command_app (codes "audit") (options_if is_audit audit_options)).top

abbrev pub curlpool : Text → App
curlpool first = curlpool_with (bytes_eq first (codes "script")) (bytes_eq first (codes "get")) (bytes_eq first (codes "load")) (bytes_eq first (codes "audit"))

-- the word after the program's name, or no text
abbrev pub first_word : List Text → Text
first_word (program ∷ first ∷ others) = first
first_word words = []

abbrev pub faults_in : List Text → Kinds
faults_in read = fault_of (curlpool (first_word read)) read

abbrev pub rows_in : List Text → Option (Text × List Row)
rows_in read = subcommand_of (curlpool (first_word read)) read

-- the words as they are read: `help COMMAND` is `COMMAND --help`, and `help` alone is `--help`
abbrev pub read_words : List Text → List Text
read_words (program ∷ first ∷ others) = if bytes_eq first (codes "help") then program ∷ (others ++ (codes "--help" ∷ [])) else program ∷ first ∷ others
read_words words = words

-- the faults of words, a request for help among them; none if they are valid
abbrev pub faults_of : List Text → Kinds
faults_of words = faults_in (read_words words)

abbrev pub word_faults : Words → Kinds
word_faults (Given words) = faults_of (map string_bytes words.items)
word_faults NotText = kinds.ValueValidation ∷ []
word_faults NoMemory = kinds.OutOfMemory ∷ []

-- the name of the subcommand, and its rows: the values of its options
abbrev pub rows_after : List Text → Option (Text × List Row)
rows_after words = rows_in (read_words words)

-- the meaning of words, with the rows of their subcommand: run a script, fetch URLs, run a load, audit a trace; or none
pub data Said : Type 0 where
  nothing : Said
  script : List Row → Said
  get : List Row → Said
  load : List Row → Said
  audit : List Row → Said

abbrev pub said_as : Text → List Row → Said
said_as name rows =
    if bytes_eq name (codes "get") then get rows
    else (if bytes_eq name (codes "load") then load rows
    else (if bytes_eq name (codes "audit") then audit rows else script rows))

abbrev pub said_in : Option (Text × List Row) → Said
said_in None = script []
said_in (Some entered) = said_as entered.0 entered.1

abbrev pub said : Words → Said
said (Given words) = said_in (rows_after (map string_bytes words.items))
said NotText = nothing
said NoMemory = nothing

-- the file that the program is to read; none is standard input, or neither
abbrev pub file_said : Said → Option Text
file_said (script rows) = file_of rows
file_said (audit rows) = file_of rows
file_said (get rows) = asked_file (first_of (codes "file") rows)
file_said _ = None

-- the class of an error: an allocation failure, a request for help or the version, or a mistake
abbrev pub class_of : ErrorKind → ErrorClass
class_of kinds.OutOfMemory = classes.Memory
class_of kinds.DisplayHelp = classes.Asked
class_of kinds.DisplayVersion = classes.Asked
class_of _ = classes.Mistake

-- one of the faults is of that class
abbrev pub HasClass : Kinds → ErrorClass → Type 0
HasClass faults class = (kind : ErrorKind) × IsAmong kind faults × (class_of kind ≡ class)

-- an error has an answer of its class, unless memory ran out
abbrev pub AnswersError : ErrorClass → Request → Type 0
AnswersError class (requests.Tell text) = class ≡ classes.Asked
AnswersError class (requests.Refuse text) = class ≡ classes.Mistake
AnswersError class requests.NoMemory = Unit {0}
AnswersError class request = ⊥

-- a request has the plan of the words
abbrev pub PlansScript : Said → ScriptWords → Type 0
PlansScript (script rows) words = AreScriptWords rows words
PlansScript _ words = ⊥

abbrev pub PlansGet : Said → CrawlPlan → Type 0
PlansGet (get rows) plan = IsPlanOf rows plan
PlansGet _ plan = ⊥

abbrev pub PlansLoad : Said → LoadPlan → Type 0
PlansLoad (load rows) plan = IsLoadPlanOf rows plan
PlansLoad _ plan = ⊥

abbrev pub PlansAudit : Said → AuditWords → Type 0
PlansAudit (audit rows) words = AreAuditWords rows words
PlansAudit _ words = ⊥

abbrev pub Plans : Said → Request → Type 0
Plans said (requests.Script words) = PlansScript said words
Plans said (requests.Get plan) = PlansGet said plan
Plans said (requests.Load plan) = PlansLoad said plan
Plans said (requests.Audit words) = PlansAudit said words
Plans said request = ⊥

-- words that say to fetch URLs, or to carry out a load, are refused
abbrev pub IsSaidRefused : Said → Type 0
IsSaidRefused (get rows) = IsGetRefused rows
IsSaidRefused (load rows) = IsLoadRefused rows
IsSaidRefused _ = ⊥

-- a refusal, or an allocation failure
abbrev pub IsRefusal : Request → Type 0
IsRefusal (requests.Refuse text) = Unit {0}
IsRefusal requests.NoMemory = Unit {0}
IsRefusal request = ⊥

-- the words after a command have a plan or are refused, unless memory ran out
abbrev pub AnswersSaid : Said → Request → Type 0
AnswersSaid said (requests.Tell text) = ⊥
AnswersSaid said (requests.Refuse text) = IsSaidRefused said
AnswersSaid said requests.NoMemory = Unit {0}
AnswersSaid said request = Plans said request

-- a request that words with these faults may make; `Lacks` holds if memory ran out
abbrev pub AsksUnless : Type 0 → Kinds → Said → Request → Type 0
AsksUnless Lacks faults said (requests.Tell text) = HasClass faults classes.Asked
AsksUnless Lacks faults said (requests.Refuse text) = HasClass faults classes.Mistake ⊎ ((faults ≡ []) × IsSaidRefused said)
AsksUnless Lacks faults said requests.NoMemory = Lacks
AsksUnless Lacks faults said request = (faults ≡ []) × Plans said request

abbrev pub MayAsk : Kinds → Said → Request → Type 0
MayAsk faults said request = AsksUnless (Unit {0}) faults said request

-- `before` and `after` are the numbers of allocation failures before and after the words were read
abbrev pub Asks : Kinds → Said → ℕ → ℕ → Request → Type 0
Asks faults said before after request = AsksUnless (Rises before after) faults said request

-- the file that a request asks for; none is standard input, or neither
abbrev pub request_file : Request → Option Text
request_file (requests.Script words) = name_of words.input
request_file (requests.Audit words) = name_of words.input
request_file (requests.Get plan) = plan_file plan
request_file _ = None
