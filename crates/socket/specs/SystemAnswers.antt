-- What the system answers to a read or a write, and what a connection tells and notes of it.
use Rattle.std.specs.Prelude.{◌≡◌, ℕ, ◌<◌, ◌⊎◌, Result, Ok, IsErrAnd}
use Rattle.std.specs.declared.io.Error.{Error}
use Rattle.std.specs.declared.io.ErrorKind.{ErrorKind}
use Rattle.std.specs.declared.io.ErrorKind.TheVariants.{WouldBlock, Interrupted}
use Rattle.std.specs.IoError.{error_kind}
use Rattle.exchange.specs.declared.wire.Read.{Read}
use Rattle.exchange.specs.declared.wire.Read.TheVariants.{Bytes, NotYet as NotReadable, End, Fault as ReadFault}
use Rattle.exchange.specs.declared.wire.Written.{Written}
use Rattle.exchange.specs.declared.wire.Written.TheVariants.{Took, NotYet as NotWritable, Fault as WriteFault}
use Rattle.socket.specs.declared.connection.Condition.TheVariants.{Used}
use Rattle.socket.specs.declared.connection.Connection.{Connection}
use Rattle.socket.specs.Sockets.{Fails}

-- a call that failed so has only to be made again: it would have waited, or a signal came
abbrev pub IsTemporary : ErrorKind → Type 0
IsTemporary kind = (kind ≡ WouldBlock) ⊎ (kind ≡ Interrupted)

-- the system answered an error, after which the call has only to be made again, or which is a failure
abbrev pub AnswersAgain : Result ℕ Error → Type 0
AnswersAgain answered = IsErrAnd answered (λ error. IsTemporary (error_kind error))

abbrev pub AnswersFailure : Result ℕ Error → Type 0
AnswersFailure answered = IsErrAnd answered (λ error. IsTemporary (error_kind error) → ⊥)

-- what is told of a read that the system answered so
abbrev pub TellsRead : Result ℕ Error → Read → Type 0
TellsRead answered (Bytes n) = (answered ≡ Ok n) × (0 < n)
TellsRead answered NotReadable = AnswersAgain answered
TellsRead answered End = answered ≡ Ok 0
TellsRead answered ReadFault = AnswersFailure answered

-- what is told of a write that the system answered so: one that takes no byte fails
abbrev pub TellsWrite : Result ℕ Error → Written → Type 0
TellsWrite answered (Took n) = (answered ≡ Ok n) × (0 < n)
TellsWrite answered NotWritable = AnswersAgain answered
TellsWrite answered WriteFault = (answered ≡ Ok 0) ⊎ AnswersFailure answered

-- what a connection notes of what it tells
abbrev pub NotesRead : Read → Connection → Connection → Type 0
NotesRead (Bytes n) old new = new ≡ record old { condition = Used }
NotesRead NotReadable old new = new ≡ old
NotesRead End old new = new ≡ record old { condition = Used }
NotesRead ReadFault old new = Fails old new

abbrev pub NotesWrite : Written → Connection → Connection → Type 0
NotesWrite (Took n) old new = new ≡ record old { condition = Used }
NotesWrite NotWritable old new = new ≡ old
NotesWrite WriteFault old new = Fails old new
