-- What running the script in a file does.
use Rattle.std.specs.Prelude.{◌≡◌, Bool, Option, Some, None, Result, IsErrAnd}
use Rattle.script_text.specs.declared.fault.FaultKind.TheVariants.{Read}
use Rattle.script_text.specs.declared.fault.ScriptFault.{ScriptFault}
use Rattle.streams.specs.Streams.{Stream}
use Rattle.script_engine.specs.Running.{RunsScript}

-- a read failed, at no line, and nothing was written
abbrev pub CannotRead : {A : Type 0} → Stream → Stream → Result A ScriptFault → Type 0
CannotRead old new result = IsErrAnd result (λ fault. (fault.line ≡ 0) × (fault.kind ≡ Read)) × (new ≡ old)

-- the script in a file that was opened is run; one that could not be opened can't be read
abbrev pub RunsOpened : {A : Type 0} → Bool → Option Stream → Stream → Stream → Result A ScriptFault → Type 0
RunsOpened traced None old new result = CannotRead old new result
RunsOpened traced (Some unread) old new result = (left : Stream) × RunsScript traced unread left old new result

-- a file was opened, and the script in it was run
pub record RunsFile {A : Type 0} (traced : Bool) (Opens : Option Stream → Type 0) (old new : Stream) (result : Result A ScriptFault) : Type 0 where
  pub opened : Option Stream
  pub opens : Opens opened
  pub runs : RunsOpened traced opened old new result
