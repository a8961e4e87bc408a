-- What is known where a response is read. No public contract needs these words.
use Rattle.std.specs.Prelude.{ℕ, List, ◌++◌, Option, None, Some}
use Rattle.httparse.specs.Grammar.{ResponseHead}
use Rattle.persistence.specs.declared.answer.ReadFault.{ReadFault}
use Rattle.persistence.specs.declared.method.Method.{Method}
use Rattle.persistence.specs.declared.head.Head.{Head}
use Rattle.persistence.specs.declared.body.state.BodyState.{BodyState}
use Rattle.persistence.specs.declared.reader.stage.Stage.{Stage}
use Rattle.persistence.specs.declared.reader.stage.Stage.TheVariants.{Heads, Body, Fault}
use Rattle.persistence.specs.Heads.{HasFinalHead}
use Rattle.persistence.specs.Framing.{body_kind}
use Rattle.persistence.specs.Told.{TellsLength}
use Rattle.persistence.specs.Faults.{IsFirstFault}
use Rattle.persistence.specs.ReadingHeads.{TellsHead, AwaitsHeads, NeverHasFinalHead}
use Rattle.persistence.specs.ReadingBody.{BodyAt, len_of}

-- the final head came, which says this, and so did this text after it
pub record PassesHead (bytes : List ℕ) (told : Head) (text : List ℕ) : Type 0 where
  pub head : ResponseHead
  pub has : HasFinalHead bytes head text
  pub says : TellsHead head told

-- the final head came, which says this, and the body stands there
pub record IsInBody (method : Method) (bytes : List ℕ) (told : Head) (body : BodyState) (kept : List ℕ) : Type 0 where
  pub text : List ℕ
  pub passes : PassesHead bytes told text
  pub at : BodyAt (body_kind method passes.head) told.fields.counted text body kept

-- the final head, as far as the bytes have one
abbrev pub TellsFinalHead : List ℕ → Option Head → Type 0
TellsFinalHead bytes None = NeverHasFinalHead bytes
TellsFinalHead bytes (Some told) = (text : List ℕ) × PassesHead bytes told text

-- the bytes tell that number of body bytes, whatever follows them
abbrev pub FixesLength : Method → List ℕ → ℕ → Type 0
FixesLength method bytes len = (more : List ℕ) → TellsLength method (bytes ++ more) len

-- the bytes show the fault first, and have that final head and so much of the body
pub record IsFaulty (method : Method) (bytes : List ℕ) (fault : ReadFault) (head : Option Head) (len : ℕ) : Type 0 where
  pub first : IsFirstFault method bytes fault
  pub tells : TellsFinalHead bytes head
  pub fixes : FixesLength method bytes len

-- what is known at that stage, where the buffer keeps these bytes
abbrev pub IsAtStage : Method → List ℕ → Stage → List ℕ → Type 0
IsAtStage method bytes (Heads skipped) kept = AwaitsHeads bytes skipped kept
IsAtStage method bytes (Body head body) kept = IsInBody method bytes head body kept
IsAtStage method bytes (Fault fault head len) kept = IsFaulty method bytes fault head len

-- the fault that was answered
abbrev pub fault_at : Stage → Option ReadFault
fault_at (Heads skipped) = None
fault_at (Body head body) = None
fault_at (Fault fault head len) = Some fault

-- the number of body bytes that is told there
abbrev pub len_at : Stage → ℕ
len_at (Heads skipped) = 0
len_at (Body head body) = len_of body
len_at (Fault fault head len) = len
