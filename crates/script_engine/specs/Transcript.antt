-- The transcript of a script: a function of its bytes.
use Rattle.std.specs.Prelude.{◌≡◌, ℕ, ◌+◌, ◌-◌, ◌≤◌, ◌⊎◌, nat_lt, if◌then◌else◌, List, [], ◌∷◌, length, take, Option, Some, None, Result, Ok, Err}
use Rattle.std.specs.List.{concat}
use Rattle.std.specs.Option.{option_map}
use Rattle.streams.specs.Lines.{lines}
use Rattle.script_text.specs.Grammar.{reading}
use Rattle.script_engine.specs.Meaning.{Run, start, step}
use Rattle.script_text.specs.declared.command.Command.{Command}
use Rattle.script_text.specs.declared.fault.FaultKind.{FaultKind}
use Rattle.script_text.specs.declared.fault.FaultKind.TheVariants.{Memory, Read, Write, ScriptTooLong}
use Rattle.script_text.specs.declared.fault.ScriptFault.{ScriptFault}
use Rattle.streams.specs.Streams.{IsFront, IsProperFront}

-- what each line writes, up to the first that is wrong, and where that is
pub record Transcript : Type 0 where
  pub texts : List (List ℕ)
  pub fault : Option ScriptFault

-- what all lines write, those up to a line, and those before it
abbrev pub whole_text : Transcript → List ℕ
whole_text transcript = concat transcript.texts

abbrev pub text_up_to : ℕ → Transcript → List ℕ
text_up_to line transcript = concat (take line transcript.texts)

abbrev pub text_before : ℕ → Transcript → List ℕ
text_before line transcript = text_up_to (line - 1) transcript

-- what a line makes of a run, and its lines in the transcript
abbrev pub line_step_of : Run → Result (Option Command) FaultKind → Result (Run × List ℕ) FaultKind
line_step_of run (Err kind) = Err kind
line_step_of run (Ok None) = Ok (run, [])
line_step_of run (Ok (Some command)) = step run command

unfoldable pub line_step : Run → List ℕ → Result (Run × List ℕ) FaultKind
line_step run line = line_step_of run (reading line)

-- the transcript ends at a fault, with its line; else the line's text goes before what the others write
abbrev pub before_others : ℕ → Result (Run × List ℕ) FaultKind → (Run → Transcript) → Transcript
before_others number (Err kind) others = record { texts = []; fault = Some (record { line = number; kind = kind }) }
before_others number (Ok next) others = let rest = others next.0 in record { texts = next.1 ∷ rest.texts; fault = rest.fault }

abbrev pub told : Run → ℕ → List (List ℕ) → Transcript
told run number [] = record { texts = []; fault = None }
told run number (line ∷ others) = before_others number (line_step run line) (λ next. told next (number + 1) others)

-- a script holds so many bytes at most
abbrev pub LONGEST_SCRIPT : ℕ
LONGEST_SCRIPT = 1048576

unfoldable pub transcript : List ℕ → Transcript
transcript script = if nat_lt LONGEST_SCRIPT (length script) then record { texts = []; fault = Some (record { line = 0; kind = ScriptTooLong }) } else told start 1 (lines script)

-- a line that is run: it has its text, or it is the one that is wrong
abbrev pub IsRun : Transcript → ℕ → Type 0
IsRun transcript line = (line ≤ length transcript.texts) ⊎ (option_map (λ (fault : ScriptFault). fault.line) transcript.fault ≡ Some line)

-- memory ran out at a line: what the lines before it write was written
pub record StopsBefore (transcript : Transcript) (line : ℕ) (written : List ℕ) : Type 0 where
  pub counted : 1 ≤ line
  pub run : IsRun transcript line
  pub same : written ≡ text_before line transcript

-- or at no line: nothing was written yet, or all
abbrev pub StopsApart : Transcript → ℕ → List ℕ → Type 0
StopsApart transcript line written = (line ≡ 0) × ((written ≡ []) ⊎ ((written ≡ whole_text transcript) × (transcript.fault ≡ None)))

-- writing failed at a line: what the lines before it write was written, and a front of its own text, not all
pub record StopsWithin (transcript : Transcript) (line : ℕ) (written : List ℕ) : Type 0 where
  pub counted : 1 ≤ line
  pub run : line ≤ length transcript.texts
  pub after_others : IsFront (text_before line transcript) written
  pub short : IsProperFront written (text_up_to line transcript)

-- how a run ends that has this transcript and wrote that
abbrev pub EndsByFault : Transcript → ScriptFault → List ℕ → FaultKind → Type 0
EndsByFault transcript fault written Memory = StopsBefore transcript fault.line written ⊎ StopsApart transcript fault.line written
EndsByFault transcript fault written Write = StopsWithin transcript fault.line written
EndsByFault transcript fault written Read = (fault.line ≡ 0) × (written ≡ [])
EndsByFault transcript fault written _ = (written ≡ whole_text transcript) × (transcript.fault ≡ Some fault)

abbrev pub Ends : {A : Type 0} → Transcript → Result A ScriptFault → List ℕ → Type 0
Ends transcript (Ok done) written = (written ≡ whole_text transcript) × (transcript.fault ≡ None)
Ends transcript (Err fault) written = EndsByFault transcript fault written fault.kind

-- what a machine answers to a command that means this, and the run after it
abbrev pub FailsBy : Result (Run × List ℕ) FaultKind → FaultKind → Type 0
FailsBy meant Memory = Unit {0}
FailsBy meant kind = meant ≡ Err kind

abbrev pub Answers : {T : Type 0} → (T → List ℕ) → Result (Run × List ℕ) FaultKind → Result T FaultKind → Run → Type 0
Answers bytes meant (Ok text) run = meant ≡ Ok (run, bytes text)
Answers bytes meant (Err kind) run = FailsBy meant kind
