-- What reading a whole script does to the stream that it is read from.
use Rattle.std.specs.Prelude.{◌≤◌, ◌<◌, ℕ, List, length, Result, Ok, Err}
use Rattle.std.specs.Io.KnownBytes.{Consumes, IsAtEnd}
use Rattle.script_text.specs.declared.fault.FaultKind.{FaultKind}
use Rattle.script_text.specs.declared.fault.FaultKind.TheVariants.{Memory, Read, ScriptTooLong}
use Rattle.script_engine.specs.Transcript.{LONGEST_SCRIPT}
use Rattle.streams.specs.Streams.{Stream, SameFailures, OneMoreFailed}

-- the script is all that there was, and not too long; or why it could not be had
abbrev pub ReadsWhole : Stream → Stream → List ℕ → Type 0
ReadsWhole old new script = Consumes old.bytes new.bytes script × IsAtEnd new.bytes × (length script ≤ LONGEST_SCRIPT) × SameFailures old new

abbrev pub ReadFails : Stream → Stream → FaultKind → Type 0
ReadFails old new Memory = (script : List ℕ) × Consumes old.bytes new.bytes script × SameFailures old new
ReadFails old new Read = (script : List ℕ) × Consumes old.bytes new.bytes script × (length script ≤ LONGEST_SCRIPT) × OneMoreFailed old new
ReadFails old new ScriptTooLong = (script : List ℕ) × Consumes old.bytes new.bytes script × (LONGEST_SCRIPT < length script) × SameFailures old new
ReadFails old new kind = ⊥

abbrev pub ReadsScript : {A : Type 0} → (A → List ℕ) → Stream → Stream → Result A FaultKind → Type 0
ReadsScript bytes old new (Ok script) = ReadsWhole old new (bytes script)
ReadsScript bytes old new (Err kind) = ReadFails old new kind
