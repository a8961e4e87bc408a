-- What is known of streams that are read or written, and what reading and writing do to them.
use Rattle.std.specs.Prelude.{◌≡◌, ℕ, ◌+◌, ◌-◌, ◌^◌, ◌<◌, Bool, true, List, [], ◌++◌, length, Option, Some, None, Result, Ok, Err}
use Rattle.std.specs.Io.KnownBytes.{Appends}
use Rattle.streams.specs.declared.stream_fault.StreamFault.{StreamFault}
use Rattle.streams.specs.declared.stream_fault.StreamFault.TheVariants.{Memory, Read, Write}

-- the bytes that reads will give, or that writes put, where they are known; how many reads or writes failed; and
-- whether a write may lack memory
pub record Stream : Type 0 where
  pub bytes : Option (List ℕ)
  pub failures : ℕ
  pub may_lack_memory : Bool

-- one more failure can be counted
abbrev pub CanCount : Stream → Type 0
CanCount stream = stream.failures < 2 ^ 64 - 1

-- a stream in memory, which never fails
abbrev pub in_memory : List ℕ → Stream
in_memory bytes = record { bytes = Some bytes; failures = 0; may_lack_memory = true }

-- no read or write failed meanwhile
abbrev pub SameFailures : Stream → Stream → Type 0
SameFailures old new = new.failures ≡ old.failures

-- one did
abbrev pub OneMoreFailed : Stream → Stream → Type 0
OneMoreFailed old new = new.failures ≡ old.failures + 1

-- a call that fails counts
abbrev pub CountsFailure : {A E : Type 0} → Stream → Stream → Result A E → Type 0
CountsFailure old new (Ok done) = SameFailures old new
CountsFailure old new (Err error) = OneMoreFailed old new

-- a front of the bytes
abbrev pub IsFront : List ℕ → List ℕ → Type 0
IsFront front bytes = (rest : List ℕ) × (bytes ≡ front ++ rest)

-- a front of the bytes that is not all of them
abbrev pub IsProperFront : List ℕ → List ℕ → Type 0
IsProperFront front bytes = IsFront front bytes × (length front < length bytes)

-- such a front is written
abbrev pub PutsFront : Option (List ℕ) → Option (List ℕ) → List ℕ → Type 0
PutsFront old new bytes = (front : List ℕ) × IsProperFront front bytes × Appends old new front

-- all of the bytes are put; or a write failed, and not all are; or memory was short, and none is
abbrev pub PutFails : Stream → Stream → List ℕ → StreamFault → Type 0
PutFails old new bytes Write = PutsFront old.bytes new.bytes bytes × OneMoreFailed old new
PutFails old new bytes Memory = Appends old.bytes new.bytes [] × SameFailures old new × (old.may_lack_memory ≡ true)
PutFails old new bytes Read = ⊥

abbrev pub Puts : {A : Type 0} → Stream → Stream → List ℕ → Result A StreamFault → Type 0
Puts old new bytes (Ok done) = Appends old.bytes new.bytes bytes × SameFailures old new
Puts old new bytes (Err fault) = PutFails old new bytes fault

-- the stream of a file, if it was opened
abbrev pub opened_stream : {A E : Type 0} → (A → Stream) → Result A E → Option Stream
opened_stream stream_of (Ok file) = Some (stream_of file)
opened_stream stream_of (Err reason) = None
