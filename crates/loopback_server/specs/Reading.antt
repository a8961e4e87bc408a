-- What a read adds to the bytes that have come.
use Rattle.std.specs.Prelude.{◌≡◌, ℕ, List, ◌++◌, length, Option}
use Rattle.std.specs.Io.KnownBytes.{Consumes}

-- so many bytes of the stream stand behind what had come
pub record AddsRead (before after : Option (List ℕ)) (count : ℕ) (old new : List ℕ) : Type 0 where
  pub more : List ℕ
  pub all : length more ≡ count
  pub read : Consumes before after more
  pub added : new ≡ old ++ more
