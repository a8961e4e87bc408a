-- What is known of a stream of the system's, and how often it failed.
use Rattle.std.specs.Prelude.{ℕ, false, List, Option}
use Rattle.streams.specs.Streams.{Stream}

-- a stream of the system's, and how many of its reads or writes failed
pub record Watching (S : Type 0) : Type 0 where
  pub stream : S
  pub failures : ℕ

-- its bytes are those that std tells of it, where std does
abbrev pub watched : {S : Type 0} → (S → Option (List ℕ)) → Watching S → Stream
watched bytes_of w = record { bytes = bytes_of w.stream; failures = w.failures; may_lack_memory = false }
