-- What contracts may know of wires and clocks.
use Rattle.std.specs.Prelude.{ℕ, List, Option, Some, None, IsSomeAnd}
use Rattle.bundle.specs.Lease.{Leasing}
use Rattle.exchange.specs.Wires.{Happening, Carried, carried_by, AllHappened}
use Rattle.exchange.specs.Wires.Happening.{is_adopted}

-- what happened on a wire from one time to another; a wire that was dialled to the host of a site for a transfer, and on
-- which nothing has happened; and the moments that a clock tells
pub record World (W : Type 0) : Type 1 where
  pub untouched : W → ℕ → ℕ → Type 0
  pub happened : W → W → Happening → Type 0
  pub tells : ℕ → Type 0

abbrev pub world_of : {W : Type 0} → (W → ℕ → ℕ → Type 0) → (W → W → Happening → Type 0) → (ℕ → Type 0) → World W
world_of untouched happened tells = record { untouched = untouched; happened = happened; tells = tells }

-- how the wire of a lease at that site for that transfer begins: the one that came with it is adopted, and a dialled one
-- is untouched
abbrev pub BeginsWith : {W : Type 0} → World W → ℕ → ℕ → Option W → W → Type 0
BeginsWith world site transfer None wire = world.untouched wire site transfer
BeginsWith world site transfer (Some given) wire = world.happened given wire is_adopted

-- all that happened on the wire since its lease was given, with which it came or not
pub record HasHappened {W : Type 0} (world : World W) (given : Leasing W) (wire : W) (all : List Happening) : Type 0 where
  pub first : W
  pub begins : BeginsWith world given.site given.start.want.transfer given.stream first
  pub happened : AllHappened world.happened first wire all

-- of what the lease's wire carried since the lease was given this holds
abbrev pub OnWire : {W : Type 0} → World W → Leasing W → Leasing W → (Carried → Type 0) → Type 0
OnWire world given lease P = IsSomeAnd lease.stream (λ wire. (all : List Happening) × HasHappened world given wire all × P (carried_by all))
