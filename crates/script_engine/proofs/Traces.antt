-- An output without echoes.
use Rattle.std.proofs.Common.{◌≡◌, ℕ, ◌+◌, Bool, true, false, List, [], ◌∷◌, ◌++◌, length, refl, ap, Some, Result, Ok, Err}
use Rattle.std.specs.Prelude.{nat_lt, if◌then◌else◌}
use Rattle.streams.specs.Lines.{lines}
use Rattle.script_text.specs.declared.fault.FaultKind.{FaultKind}
use Rattle.script_text.specs.declared.fault.FaultKind.TheVariants.{Memory, Read, Write, ScriptTooLong, LineTooLong, Unknown, Form, Place, BadLimits, BadSite, TooManySites}
use Rattle.script_engine.specs.Meaning.{Run, start}
use Rattle.script_engine.specs.Transcript.{FailsBy, LONGEST_SCRIPT, Transcript, before_others, line_step, told, transcript}
use Rattle.script_engine.specs.Traces.{echo_of, echoed, output_of, told_as, with_echo}

same-others : (number : ℕ) (made : Result (Run × List ℕ) FaultKind) (f g : Run → Transcript) → ((run : Run) → f run ≡ g run) → before_others number made f ≡ before_others number made g
same-others number (Err kind) f g same = refl
same-others number (Ok next) f g same = ap (λ (rest : Transcript). record { texts = next.1 ∷ rest.texts; fault = rest.fault }) (same next.0)

same-told : (left : List (List ℕ)) (run : Run) (number : ℕ) → told_as false run number left ≡ told run number left
same-told [] run number = refl
same-told (line ∷ others) run number =
    same-others number (line_step run line) (λ next. told_as false next (number + 1) others) (λ next. told next (number + 1) others) (λ next. same-told others next (number + 1))

pub untraced : (script : List ℕ) → output_of false script ≡ transcript script
unfolding output_of transcript
untraced script =
    ap (λ (told : Transcript). if nat_lt LONGEST_SCRIPT (length script) then record { texts = []; fault = Some (record { line = 0; kind = ScriptTooLong }) } else told) (same-told (lines script) start 1)

-- what a line writes with its echo, or without it
pub untraced-line : (traced : Bool) (line : List ℕ) (made : Result (Run × List ℕ) FaultKind) (next : Run × List ℕ) → traced ≡ false → made ≡ Ok next → with_echo traced line made ≡ Ok next
untraced-line true line made next is e = cc
untraced-line false line made next is e = e

pub traced-line : (traced : Bool) (line : List ℕ) (made : Result (Run × List ℕ) FaultKind) (next : Run × List ℕ) → traced ≡ true → made ≡ Ok next → with_echo traced line made ≡ Ok (next.0, echo_of line ++ next.1)
traced-line true line made next is e = ap (echoed line) e
traced-line false line made next is e = cc

-- it fails as it does without
still-err : (traced : Bool) (line : List ℕ) (made : Result (Run × List ℕ) FaultKind) (kind : FaultKind) → made ≡ Err kind → with_echo traced line made ≡ Err kind
still-err true line made kind e = ap (echoed line) e
still-err false line made kind e = e

pub traced-fails : (traced : Bool) (line : List ℕ) (made : Result (Run × List ℕ) FaultKind) (kind : FaultKind) → FailsBy made kind → FailsBy (with_echo traced line made) kind
traced-fails traced line made Memory fails = fails
traced-fails traced line made Write fails = still-err traced line made Write fails
traced-fails traced line made Read fails = still-err traced line made Read fails
traced-fails traced line made ScriptTooLong fails = still-err traced line made ScriptTooLong fails
traced-fails traced line made LineTooLong fails = still-err traced line made LineTooLong fails
traced-fails traced line made Unknown fails = still-err traced line made Unknown fails
traced-fails traced line made Form fails = still-err traced line made Form fails
traced-fails traced line made Place fails = still-err traced line made Place fails
traced-fails traced line made BadLimits fails = still-err traced line made BadLimits fails
traced-fails traced line made BadSite fails = still-err traced line made BadSite fails
traced-fails traced line made TooManySites fails = still-err traced line made TooManySites fails
