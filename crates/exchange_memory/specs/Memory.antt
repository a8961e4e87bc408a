-- What happens on a connection in memory.
use Rattle.std.specs.Prelude.{◌≡◌, ◌⊎◌, ℕ, List, [], ◌++◌, length, take}
use Rattle.streams.specs.RisingCounts.{Rises}
use Rattle.exchange_memory.specs.declared.calls.Halt.TheVariants.{End}
use Rattle.exchange_memory.specs.declared.memory_wire.MemoryWire.{MemoryWire}
use Rattle.exchange_memory.specs.Halts.{HaltsWith}
use Rattle.exchange.specs.Wires.{Happening}
use Rattle.exchange.specs.Wires.Happening.{nothing, is_adopted, takes, gives, ends, fails_to_read, fails_to_write}

-- what its peer has answered of its script
abbrev pub answered : MemoryWire → List ℕ
answered wire = take wire.place wire.response.items

-- its peer has ended it: all bytes of its script were answered, or its last read is the one that tells of an end
abbrev pub HasEnded : MemoryWire → Type 0
HasEnded wire = (wire.place ≡ length wire.response.items) ⊎ HaltsWith wire.reads End

-- it has sent nothing, and its peer has answered nothing
pub record IsUntouched (wire : MemoryWire) : Type 0 where
  pub sent : wire.sent.items ≡ []
  pub answered_is : answered wire ≡ []

-- it is the same, but for the most bytes that a read gives
pub record IsSameButForReads (old new : MemoryWire) : Type 0 where
  pub response : new.response ≡ old.response
  pub place : new.place ≡ old.place
  pub reads : new.reads ≡ old.reads
  pub sent : new.sent ≡ old.sent
  pub most_written : new.most_written ≡ old.most_written
  pub writes : new.writes ≡ old.writes
  pub failures : new.failures ≡ old.failures
  pub source : new.source ≡ old.source

-- it has sent that much more, and its peer has answered that much more of the same script
pub record Carries (sent received : List ℕ) (old new : MemoryWire) : Type 0 where
  pub script : new.response.items ≡ old.response.items
  pub source : new.source.id ≡ old.source.id
  pub sent_is : new.sent.items ≡ old.sent.items ++ sent
  pub answered_is : answered new ≡ answered old ++ received

-- and no read or write failed
abbrev pub CarriesWell : List ℕ → List ℕ → MemoryWire → MemoryWire → Type 0
CarriesWell sent received old new = Carries sent received old new × (new.failures ≡ old.failures)

-- a read or a write failed, and nothing was sent or answered
abbrev pub Breaks : MemoryWire → MemoryWire → Type 0
Breaks old new = Carries [] [] old new × Rises old.failures new.failures

-- from the one time to the other this happened
abbrev pub HappenedTo : MemoryWire → MemoryWire → Happening → Type 0
HappenedTo old new nothing = CarriesWell [] [] old new
HappenedTo old new is_adopted = CarriesWell [] [] old new
HappenedTo old new (takes bytes) = CarriesWell bytes [] old new
HappenedTo old new (gives bytes) = CarriesWell [] bytes old new
HappenedTo old new ends = CarriesWell [] [] old new × HasEnded new
HappenedTo old new fails_to_read = Breaks old new
HappenedTo old new fails_to_write = Breaks old new
