-- What `audit` does, and its status.
use Rattle.std.specs.Prelude.{◌≡◌, ℕ, Option, Some, None, Result, Ok, Err}
use Rattle.clap.specs.Words.{Text}
use Rattle.streams.specs.Streams.{Stream}
use Rattle.audit_stream.specs.declared.stop.AuditStop.{AuditStop}
use Rattle.audit_stream.specs.declared.stop.AuditStop.TheVariants.{Line, Read, Memory, Write}
use Rattle.audit_stream.specs.declared.audit_output.AuditOutput.{AuditOutput}
use Rattle.audit_stream.specs.declared.audit_output.Verdict.{Verdict}
use Rattle.audit_stream.specs.declared.audit_output.Verdict.TheVariants.{Lawful, Broken}
use Rattle.audit_stream.specs.Audits.{AuditsFile, AuditsStream}

-- what opening a file of that name may give: its stream, or none
abbrev pub Opening : Type 1
Opening = Text → Option Stream → Type 0

-- the status of a program that judged a trace
abbrev pub stop_status : AuditStop → ℕ
stop_status (Line line fault) = 3
stop_status Read = 3
stop_status Memory = 4
stop_status Write = 4

abbrev pub audit_status : Result Verdict AuditStop → ℕ
audit_status (Ok Lawful) = 0
audit_status (Ok Broken) = 1
audit_status (Err stop) = stop_status stop

-- the trace on standard input was judged: nothing else was read or written
pub record AuditsAsked (telling : AuditOutput) (unread left old new : Stream) (status : ℕ) : Type 0 where
  pub result : Result Verdict AuditStop
  pub audits : AuditsStream telling unread left old new result
  pub ends : status ≡ audit_status result

-- the trace in a file was
pub record AuditsNamed (Opens : Option Stream → Type 0) (telling : AuditOutput) (unread left old new : Stream) (status : ℕ) : Type 0 where
  pub unread_yet : left ≡ unread
  pub result : Result Verdict AuditStop
  pub audits : AuditsFile Opens telling old new result
  pub ends : status ≡ audit_status result

-- a trace is read from the file of that name, or from standard input
abbrev pub AnswersAudit : Opening → Option Text → AuditOutput → Stream → Stream → Stream → Stream → ℕ → Type 0
AnswersAudit Opens None telling unread left old new status = AuditsAsked telling unread left old new status
AnswersAudit Opens (Some name) telling unread left old new status = AuditsNamed (Opens name) telling unread left old new status
