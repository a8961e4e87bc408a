-- What running a script does to reader and writer.
use Rattle.std.specs.Prelude.{◌≡◌, ◌<◌, ◌≤◌, ◌+◌, ◌⊎◌, ◌≢◌, ℕ, Bool, length, List, [], Option, Result, Ok, Err}
use Rattle.std.specs.Io.KnownBytes.{Appends, Consumes, IsAtEnd}
use Rattle.script_text.specs.declared.fault.FaultKind.{FaultKind}
use Rattle.script_text.specs.declared.fault.FaultKind.TheVariants.{Memory, Read, Write, ScriptTooLong}
use Rattle.script_text.specs.declared.fault.ScriptFault.{ScriptFault}
use Rattle.script_engine.specs.Transcript.{Transcript, Ends, LONGEST_SCRIPT}
use Rattle.streams.specs.Streams.{IsProperFront}
use Rattle.script_engine.specs.Meaning.{Run}
use Rattle.script_engine.specs.Traces.{output_of}
use Rattle.streams.specs.Streams.{Stream, SameFailures, OneMoreFailed}

-- what a line wrote that means this, and the run after it
abbrev pub WritesNothing : Stream → Stream → Type 0
WritesNothing old new = Appends old.bytes new.bytes [] × SameFailures old new

abbrev pub WritesInPart : Stream → Stream → List ℕ → Type 0
WritesInPart old new text = (front : List ℕ) × IsProperFront front text × Appends old.bytes new.bytes front × OneMoreFailed old new

abbrev pub LineFails : Stream → Stream → Result (Run × List ℕ) FaultKind → FaultKind → Type 0
LineFails old new meant Memory = WritesNothing old new
LineFails old new meant Write = (next : Run × List ℕ) × (meant ≡ Ok next) × WritesInPart old new next.1
LineFails old new meant kind = (meant ≡ Err kind) × WritesNothing old new

abbrev pub RunsLine : {A : Type 0} → Stream → Stream → Result (Run × List ℕ) FaultKind → Run → Result A FaultKind → Type 0
RunsLine old new meant run (Ok done) = (text : List ℕ) × (meant ≡ Ok (run, text)) × Appends old.bytes new.bytes text × SameFailures old new
RunsLine old new meant run (Err kind) = LineFails old new meant kind

-- how many reads, and how many writes, a run's fault tells of
abbrev pub read_failures : FaultKind → ℕ
read_failures Read = 1
read_failures _ = 0

abbrev pub write_failures : FaultKind → ℕ
write_failures Write = 1
write_failures _ = 0

abbrev pub failed_reads : {A : Type 0} → Result A ScriptFault → ℕ
failed_reads (Ok done) = 0
failed_reads (Err fault) = read_failures fault.kind

abbrev pub failed_writes : {A : Type 0} → Result A ScriptFault → ℕ
failed_writes (Ok done) = 0
failed_writes (Err fault) = write_failures fault.kind

-- something was written, and the run that has this transcript ends so; a write failed where the fault says so, and
-- nowhere else
pub record RunsLines {A : Type 0} (old new : Stream) (meant : Transcript) (result : Result A ScriptFault) : Type 0 where
  pub written : List ℕ
  pub appended : Appends old.bytes new.bytes written
  pub ends : Ends meant result written
  pub failures : new.failures ≡ old.failures + failed_writes result

-- no fault is a read's
abbrev pub RunsWithoutReading : {A : Type 0} → Stream → Stream → Transcript → Result A ScriptFault → Type 0
RunsWithoutReading old new meant result = RunsLines old new meant result × (failed_reads result ≡ 0)

-- all was read; or nothing was written, since reading came to an end before
abbrev pub ReadsOn : Option (List ℕ) → List ℕ → List ℕ → ℕ → FaultKind → Type 0
ReadsOn left script written line Memory = IsAtEnd left ⊎ ((line ≡ 0) × (written ≡ []))
ReadsOn left script written line Read = length script ≤ LONGEST_SCRIPT
ReadsOn left script written line ScriptTooLong = IsAtEnd left ⊎ (LONGEST_SCRIPT < length script)
ReadsOn left script written line kind = IsAtEnd left

abbrev pub ReadsAll : {A : Type 0} → Option (List ℕ) → List ℕ → List ℕ → Result A ScriptFault → Type 0
ReadsAll left script written (Ok done) = IsAtEnd left
ReadsAll left script written (Err fault) = ReadsOn left script written fault.line fault.kind

-- a script was read and something was written: a run of the script's trace or transcript, that ends so; a read failed where
-- the fault says so, and nowhere else
pub record RunsScript {A : Type 0} (traced : Bool) (unread left old new : Stream) (result : Result A ScriptFault) : Type 0 where
  pub script : List ℕ
  pub consumed : Consumes unread.bytes left.bytes script
  pub lines : RunsLines old new (output_of traced script) result
  pub whole : ReadsAll left.bytes script lines.written result
  pub failures : left.failures ≡ unread.failures + failed_reads result

-- neither a read nor a write failed
abbrev pub IsOfNoStream : ScriptFault → Type 0
IsOfNoStream fault = (fault.kind ≢ Read) × (fault.kind ≢ Write)
