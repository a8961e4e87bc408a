-- A script with what it causes, as a trace.
use Rattle.std.specs.Prelude.{◌≡◌, ℕ, ◌+◌, Bool, true, false, not, nat_lt, if◌then◌else◌, List, [], ◌∷◌, ◌++◌, length, Option, Some, None, Result, Ok, Err}
use Rattle.streams.specs.Lines.{lines}
use Rattle.script_text.specs.Grammar.{reading}
use Rattle.script_text.specs.declared.command.Action.{Action}
use Rattle.script_text.specs.declared.command.Action.TheVariants.{Limit}
use Rattle.script_text.specs.declared.command.Command.{Command}
use Rattle.script_text.specs.declared.command.Command.TheVariants.{Ask}
use Rattle.script_text.specs.declared.command.HostCommand.TheVariants.{At}
use Rattle.script_text.specs.declared.fault.FaultKind.{FaultKind}
use Rattle.script_text.specs.declared.fault.FaultKind.TheVariants.{ScriptTooLong}
use Rattle.script_engine.specs.Meaning.{Run, start}
use Rattle.script_engine.specs.Transcript.{LONGEST_SCRIPT, Transcript, before_others, line_step, transcript}

-- a line of a script stands in the trace, but for a new limit: the line of the transcript is the same text, and says
-- whether it was taken
abbrev pub is_limit : Action → Bool
is_limit (Limit limit moment) = true
is_limit _ = false

abbrev pub stands : Result (Option Command) FaultKind → Bool
stands (Ok (Some (Ask (At site action)))) = not (is_limit action)
stands _ = true

abbrev pub echo_of : List ℕ → List ℕ
echo_of line = if stands (reading line) then line ++ (10 ∷ []) else []

-- what a line writes, in a trace with itself before that
abbrev pub echoed : List ℕ → Result (Run × List ℕ) FaultKind → Result (Run × List ℕ) FaultKind
echoed line (Err kind) = Err kind
echoed line (Ok next) = Ok (next.0, echo_of line ++ next.1)

abbrev pub with_echo : Bool → List ℕ → Result (Run × List ℕ) FaultKind → Result (Run × List ℕ) FaultKind
with_echo false line made = made
with_echo true line made = echoed line made

abbrev pub traced_step : Bool → Run → List ℕ → Result (Run × List ℕ) FaultKind
traced_step traced run line = with_echo traced line (line_step run line)

abbrev pub told_as : Bool → Run → ℕ → List (List ℕ) → Transcript
told_as traced run number [] = record { texts = []; fault = None }
told_as traced run number (line ∷ others) = before_others number (traced_step traced run line) (λ next. told_as traced next (number + 1) others)

-- the output for a script: its trace, or its transcript
unfoldable pub output_of : Bool → List ℕ → Transcript
output_of traced script = if nat_lt LONGEST_SCRIPT (length script) then record { texts = []; fault = Some (record { line = 0; kind = ScriptTooLong }) } else told_as traced start 1 (lines script)

-- without echoes it is the transcript
abbrev pub AnUntracedOutputIsTheTranscript : Type 0
AnUntracedOutputIsTheTranscript = (script : List ℕ) → output_of false script ≡ transcript script
