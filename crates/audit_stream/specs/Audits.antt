-- What an audit of a trace answers.
use Rattle.std.specs.Prelude.{◌≡◌, ◌⊎◌, ℕ, ◌+◌, Bool, true, false, List, [], ◌++◌, Option, Some, None, Result, Ok, Err, if◌then◌else◌}
use Rattle.std.specs.Io.KnownBytes.{Consumes, IsAtEnd}
use Rattle.streams.specs.Streams.{Stream}
use Rattle.audit_stream.specs.declared.stop.AuditStop.{AuditStop}
use Rattle.audit_stream.specs.declared.stop.AuditStop.TheVariants.{Memory, Read}
use Rattle.audit_stream.specs.declared.audit_output.AuditOutput.{AuditOutput}
use Rattle.audit_stream.specs.declared.audit_output.Verdict.{Verdict}
use Rattle.audit_stream.specs.declared.audit_output.Verdict.TheVariants.{Lawful, Broken}
use Rattle.audit_stream.specs.Tells.{Told, nothing_told}
use Rattle.audit_stream.specs.Reading.{Finishes, StopsAtFirst}
use Rattle.audit_stream.specs.Writing.{WritesFor, reads_of, writes_of}

-- a trace is read from a stream to its end; or up to the first line that breaks a rule, if one violation is enough
pub record ReadsStream (all : Bool) (unread left : Stream) (old new : Told) : Type 0 where
  pub trace : List ℕ
  pub consumed : Consumes unread.bytes left.bytes trace
  pub reads : (Finishes trace old new × IsAtEnd left.bytes) ⊎ ((all ≡ false) × StopsAtFirst trace old new)
  pub failures : left.failures ≡ unread.failures

-- or a part of it was
pub record ReadsPart (unread left : Stream) (stop : AuditStop) : Type 0 where
  pub part : List ℕ
  pub consumed : Consumes unread.bytes left.bytes part
  pub failures : left.failures ≡ unread.failures + reads_of stop

-- a piece is read: some bytes, none only at the end
pub record ReadsMore (unread left : Stream) (old new : List ℕ) (count : ℕ) : Type 0 where
  pub bytes : List ℕ
  pub consumed : Consumes unread.bytes left.bytes bytes
  pub grown : new ≡ old ++ bytes
  pub at_end : count ≡ 0 → (IsAtEnd left.bytes × (bytes ≡ []))
  pub failures : left.failures ≡ unread.failures

abbrev pub ReadsPiece : Stream → Stream → List ℕ → List ℕ → Result ℕ AuditStop → Type 0
ReadsPiece unread left old new (Ok count) = ReadsMore unread left old new count
ReadsPiece unread left old new (Err stop) = ReadsPart unread left stop × (writes_of stop ≡ 0)

-- a text is set, or memory is short
abbrev pub IsSetTo : {A : Type 0} → List ℕ → List ℕ → Result A AuditStop → Type 0
IsSetTo new bytes (Ok done) = new ≡ bytes
IsSetTo new bytes (Err stop) = stop ≡ Memory

abbrev pub ReadsAll : {A : Type 0} → Bool → Stream → Stream → Told → Told → Result A AuditStop → Type 0
ReadsAll all unread left old new (Ok done) = ReadsStream all unread left old new
ReadsAll all unread left old new (Err stop) = ReadsPart unread left stop

-- lawful: no rule is broken
abbrev pub verdict_on : Bool → Verdict
verdict_on broken = if broken then Broken else Lawful

abbrev pub Judges : Bool → Stream → Stream → Result Verdict AuditStop → Type 0
Judges all unread left (Ok verdict) = (told : Told) × ReadsStream all unread left nothing_told told × (verdict ≡ verdict_on told.broken)
Judges all unread left (Err stop) = ReadsPart unread left stop

-- a trace is judged, and the answer written
pub record AuditsStream (telling : AuditOutput) (unread left old new : Stream) (result : Result Verdict AuditStop) : Type 0 where
  pub judges : Judges telling.all unread left result
  pub writes : WritesFor old new result

-- the trace in a file that was opened is judged; one that could not be opened can't be read
abbrev pub AuditsOpened : AuditOutput → Option Stream → Stream → Stream → Result Verdict AuditStop → Type 0
AuditsOpened telling None old new result = (result ≡ Err Read) × (new ≡ old)
AuditsOpened telling (Some unread) old new result = (left : Stream) × AuditsStream telling unread left old new result

pub record AuditsFile (Opens : Option Stream → Type 0) (telling : AuditOutput) (old new : Stream) (result : Result Verdict AuditStop) : Type 0 where
  pub opened : Option Stream
  pub opens : Opens opened
  pub audits : AuditsOpened telling opened old new result
