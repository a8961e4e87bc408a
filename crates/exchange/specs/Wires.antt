-- What happens on wires, and what they carry.
use Rattle.std.specs.Prelude.{◌≡◌, ℕ, ◌<◌, ◌≤◌, Bool, true, false, List, [], ◌∷◌, ◌++◌, length, take}
use Rattle.exchange.specs.declared.wire.Read.{Read}
use Rattle.exchange.specs.declared.wire.Read.TheVariants.{Bytes, NotYet as NotReadable, End, Fault as ReadFault}
use Rattle.exchange.specs.declared.wire.Written.{Written}
use Rattle.exchange.specs.declared.wire.Written.TheVariants.{Took, NotYet as NotWritable, Fault as WriteFault}

-- what happens on a wire at one call: nothing; a dial takes it over; it takes bytes to send, or gives bytes that came;
-- its peer has ended it; or a read or a write fails
pub data Happening : Type 0 where
  nothing : Happening
  is_adopted : Happening
  takes : List ℕ → Happening
  gives : List ℕ → Happening
  ends : Happening
  fails_to_read : Happening
  fails_to_write : Happening

-- what a wire carried: the bytes that it has sent and received, whether its peer has ended it, and whether a read or a
-- write failed
pub record Carried : Type 0 where
  pub sent : List ℕ
  pub received : List ℕ
  pub ended : Bool
  pub read_failed : Bool
  pub write_failed : Bool

abbrev pub nothing_carried : Carried
nothing_carried = record { sent = []; received = []; ended = false; read_failed = false; write_failed = false }

-- what it carried once this happened too
abbrev pub carries_more : Happening → Carried → Carried
carries_more Happening.nothing c = c
carries_more Happening.is_adopted c = c
carries_more (Happening.takes bytes) c = record c { sent = c.sent ++ bytes }
carries_more (Happening.gives bytes) c = record c { received = c.received ++ bytes }
carries_more Happening.ends c = record c { ended = true }
carries_more Happening.fails_to_read c = record c { read_failed = true }
carries_more Happening.fails_to_write c = record c { write_failed = true }

-- what it carried once all this happened, the newest first
abbrev pub carried_by : List Happening → Carried
carried_by [] = nothing_carried
carried_by (h ∷ earlier) = carries_more h (carried_by earlier)

-- all this happened on a wire, from the one time to the other, the newest first
abbrev pub AllHappened : {W : Type 0} → (W → W → Happening → Type 0) → W → W → List Happening → Type 0
AllHappened happened old new [] = new ≡ old
AllHappened {W} happened old new (h ∷ earlier) = (middle : W) × AllHappened happened old middle earlier × happened middle new h

-- a read into a buffer, which it leaves so, answers that, if this happened
abbrev pub Reads : List ℕ → (Happening → Type 0) → Read → Type 0
Reads buffer happened (Bytes n) = (0 < n) × (n ≤ length buffer) × happened (Happening.gives (take n buffer))
Reads buffer happened NotReadable = happened Happening.nothing
Reads buffer happened End = happened Happening.ends
Reads buffer happened ReadFault = happened Happening.fails_to_read

-- a write of those bytes answers that, if this happened
abbrev pub Writes : List ℕ → (Happening → Type 0) → Written → Type 0
Writes bytes happened (Took n) = (0 < n) × (n ≤ length bytes) × happened (Happening.takes (take n bytes))
Writes bytes happened NotWritable = happened Happening.nothing
Writes bytes happened WriteFault = happened Happening.fails_to_write
