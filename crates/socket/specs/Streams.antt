-- What happens on a connection, and to the bytes of the stream that it goes over.
use Rattle.std.specs.Prelude.{ℕ, ◌⊎◌, List, Option}
use Rattle.std.specs.Io.KnownBytes.{Appends, Consumes, IsAtEnd, Keeps}
use Rattle.exchange.specs.declared.wire.Written.{Written}
use Rattle.exchange.specs.declared.wire.Written.TheVariants.{NotYet as NotWritable}
use Rattle.exchange.specs.Wires.{Happening}
use Rattle.exchange.specs.Wires.Happening.{nothing, is_adopted, takes, gives, ends, fails_to_read, fails_to_write}
use Rattle.socket.specs.declared.connection.Connection.{Connection}
use Rattle.socket.specs.Sockets.{HappensTo}

-- from the one time to the other this happened: the bytes written, if they are known, grew by those that it takes and
-- no others, and those that are left to read, if they are known, shrank by those that it gives
abbrev pub Carries : Option (List ℕ) → Option (List ℕ) → Option (List ℕ) → Option (List ℕ) → Happening → Type 0
Carries written written' left left' nothing = Keeps written written' ⊎ Keeps left left'
Carries written written' left left' is_adopted = Keeps written written' × Keeps left left'
Carries written written' left left' (takes bytes) = Appends written written' bytes
Carries written written' left left' (gives bytes) = Consumes left left' bytes
Carries written written' left left' ends = IsAtEnd left'
Carries written written' left left' fails_to_read = Keeps left left'
Carries written written' left left' fails_to_write = Keeps written written'

-- this happened on a connection over that stream
abbrev pub HappensOver : {S : Type 0} → (S → Option (List ℕ)) → (S → Option (List ℕ)) → Connection → Connection → S → S → Happening → Type 0
HappensOver contents remaining old new before after happening = HappensTo old new happening × Carries (contents before) (contents after) (remaining before) (remaining after) happening

-- a write that found no room left the bytes written as they were, if they are known
abbrev pub KeepsUnwritten : {S : Type 0} → (S → Option (List ℕ)) → S → S → Written → Type 0
KeepsUnwritten contents before after NotWritable = Keeps (contents before) (contents after)
KeepsUnwritten contents before after _ = Unit {0}
