-- What is written of an audit.
use Rattle.std.specs.Prelude.{◌≡◌, ℕ, ◌+◌, List, Result, Ok, Err}
use Rattle.std.specs.Io.KnownBytes.{Appends}
use Rattle.streams.specs.declared.stream_fault.StreamFault.{StreamFault}
use Rattle.streams.specs.declared.stream_fault.StreamFault.TheVariants as kinds
use Rattle.streams.specs.Streams.{Stream}
use Rattle.audit.specs.declared.fault.AuditFault.{AuditFault}
use Rattle.audit.specs.declared.fault.AuditFault.TheVariants as faults
use Rattle.audit_stream.specs.declared.stop.AuditStop.{AuditStop}
use Rattle.audit_stream.specs.declared.stop.AuditStop.TheVariants.{Line, Read, Memory, Write}

-- why an audit ends at a line that has that fault
abbrev pub stop_at : ℕ → AuditFault → AuditStop
stop_at line faults.Memory = Memory
stop_at line fault = Line line fault

-- why an answer isn't written whole
abbrev pub stop_of_output : StreamFault → AuditStop
stop_of_output kinds.Memory = Memory
stop_of_output _ = Write

-- how many reads, and how many writes, failed
abbrev pub reads_of : AuditStop → ℕ
reads_of Read = 1
reads_of _ = 0

abbrev pub writes_of : AuditStop → ℕ
writes_of Write = 1
writes_of _ = 0

abbrev pub failed_reads : {A : Type 0} → Result A AuditStop → ℕ
failed_reads (Ok done) = 0
failed_reads (Err stop) = reads_of stop

abbrev pub failed_writes : {A : Type 0} → Result A AuditStop → ℕ
failed_writes (Ok done) = 0
failed_writes (Err stop) = writes_of stop

-- some text was written, and so many writes failed
pub record Writes (old new : Stream) (failed : ℕ) : Type 0 where
  pub text : List ℕ
  pub appended : Appends old.bytes new.bytes text
  pub failures : new.failures ≡ old.failures + failed

abbrev pub WritesFor : {A : Type 0} → Stream → Stream → Result A AuditStop → Type 0
WritesFor old new result = Writes old new (failed_writes result)

-- and no read failed
abbrev pub WritesAlone : {A : Type 0} → Stream → Stream → Result A AuditStop → Type 0
WritesAlone old new result = WritesFor old new result × (failed_reads result ≡ 0)
