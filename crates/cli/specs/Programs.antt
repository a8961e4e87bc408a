-- Runs of the program: the output and the status of each request.
use Rattle.std.specs.Prelude.{◌≡◌, ◌⊎◌, ℕ, Bool, List, string_bytes, Option, Some, None, Result, Ok, Err}
use Rattle.std.specs.Option.{option_map}
use Rattle.clap.specs.Words.{Kinds, Text}
use Rattle.script_text.specs.declared.fault.ScriptFault.{ScriptFault}
use Rattle.commands.specs.declared.crawl_plan.CrawlPlan.{CrawlPlan}
use Rattle.commands.specs.declared.load_plan.LoadPlan.{LoadPlan}
use Rattle.command_line.specs.declared.request.Request.{Request}
use Rattle.command_line.specs.declared.request.Request.TheVariants as requests
use Rattle.streams.specs.Streams.{Stream}
use Rattle.script_engine.specs.Running.{RunsScript}
use Rattle.script_engine.specs.RunFiles.{RunsFile}
use Rattle.load_run.specs.LoadTexts.{WritesText}
use Rattle.command_line.specs.Inputs.{name_of}
use Rattle.cli.specs.Auditing.{AnswersAudit, Opening}
use Rattle.command_line.specs.CommandLine.{Asks, Said}

-- the status of a program that ran a script
abbrev pub status_of : {A : Type 0} → Result A ScriptFault → ℕ
status_of (Ok done) = 0
status_of (Err fault) = 3

-- runs the script on standard input, and reads and writes nothing else
pub record RunsAsked (traced : Bool) (unread left old new : Stream) (status : ℕ) : Type 0 where
  pub result : Result (Unit {0}) ScriptFault
  pub runs : RunsScript traced unread left old new result
  pub ends : status ≡ status_of result

-- runs the script in a file, and reads and writes nothing else
pub record RunsNamed (Opens : Option Stream → Type 0) (traced : Bool) (unread left old new : Stream) (status : ℕ) : Type 0 where
  pub unread_yet : left ≡ unread
  pub result : Result (Unit {0}) ScriptFault
  pub runs : RunsFile traced Opens old new result
  pub ends : status ≡ status_of result

-- runs the script in the file of that name, or on standard input
abbrev pub AnswersScript : Opening → Option Text → Bool → Stream → Stream → Stream → Stream → ℕ → Type 0
AnswersScript Opens None traced unread left old new status = RunsAsked traced unread left old new status
AnswersScript Opens (Some name) traced unread left old new status = RunsNamed (Opens name) traced unread left old new status

-- writes a text, and reads nothing
pub record TellsText (text : List ℕ) (unread left old new : Stream) (status : ℕ) : Type 0 where
  pub unread_yet : left ≡ unread
  pub writes : WritesText text old new status

-- ends with this status, and reads and writes nothing
pub record EndsAtOnce (ending : ℕ) (unread left old new : Stream) (status : ℕ) : Type 0 where
  pub unread_yet : left ≡ unread
  pub unwritten : new ≡ old
  pub ends : status ≡ ending

-- creates no picture, and reads and writes nothing; or runs the script as without a picture, with status 4 if the picture
-- was not written
abbrev pub IsRunOrUnwritten : ℕ → ℕ → Type 0
IsRunOrUnwritten ran status = (status ≡ ran) ⊎ (status ≡ 4)

abbrev pub AnswersPictured : Opening → Option Text → Bool → Stream → Stream → Stream → Stream → ℕ → Type 0
AnswersPictured Opens file traced unread left old new status =
    EndsAtOnce 4 unread left old new status ⊎ ((ran : ℕ) × AnswersScript Opens file traced unread left old new ran × IsRunOrUnwritten ran status)

-- runs a script, with a picture if the words name one
abbrev pub AnswersDrawn : Option Text → Opening → Option Text → Bool → Stream → Stream → Stream → Stream → ℕ → Type 0
AnswersDrawn None Opens file traced unread left old new status = AnswersScript Opens file traced unread left old new status
AnswersDrawn (Some picture) Opens file traced unread left old new status = AnswersPictured Opens file traced unread left old new status

-- the input, output and status that a run of `get` may have
abbrev pub PlanRun : Type 1
PlanRun = CrawlPlan → Stream → Stream → Stream → Stream → ℕ → Type 0

-- runs a load, and reads nothing
pub record AnswersPlan (Runs : Stream → Stream → ℕ → Type 0) (unread left old new : Stream) (status : ℕ) : Type 0 where
  pub unread_yet : left ≡ unread
  pub runs : Runs old new status

-- the output and status that a run of `load` may have
abbrev pub LoadRun : Type 1
LoadRun = LoadPlan → Stream → Stream → ℕ → Type 0

-- a request is answered, with its status: a script, a plan or a load runs, or a trace is judged; help or the version is
-- printed; refused words, and an allocation failure while they are read, end the program at once
abbrev pub AnswersRequest : Opening → PlanRun → LoadRun → Request → Stream → Stream → Stream → Stream → ℕ → Type 0
AnswersRequest Opens Runs Loads (requests.Script words) unread left old new status = AnswersDrawn (option_map string_bytes words.picture) Opens (name_of words.input) words.is_traced unread left old new status
AnswersRequest Opens Runs Loads (requests.Get plan) unread left old new status = Runs plan unread left old new status
AnswersRequest Opens Runs Loads (requests.Load options) unread left old new status = AnswersPlan (Loads options) unread left old new status
AnswersRequest Opens Runs Loads (requests.Audit words) unread left old new status = AnswersAudit Opens (name_of words.input) words.telling unread left old new status
AnswersRequest Opens Runs Loads (requests.Tell text) unread left old new status = TellsText (string_bytes text) unread left old new status
AnswersRequest Opens Runs Loads (requests.Refuse text) unread left old new status = EndsAtOnce 2 unread left old new status
AnswersRequest Opens Runs Loads requests.NoMemory unread left old new status = EndsAtOnce 4 unread left old new status

-- the program answers a request that its words may make, by their faults and their meaning; `before` and `after` are the
-- numbers of allocation failures before and after the words were read
abbrev pub RunsProgram : Opening → PlanRun → LoadRun → Kinds → Said → ℕ → ℕ → Stream → Stream → Stream → Stream → ℕ → Type 0
RunsProgram Opens Runs Loads faults said before after unread left old new status =
    (request : Request) × Asks faults said before after request × AnswersRequest Opens Runs Loads request unread left old new status
