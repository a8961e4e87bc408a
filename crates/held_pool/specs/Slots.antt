-- Which value a slot names, and what calls change.
use Rattle.std.specs.Prelude.{◌≡◌, ℕ, ◌+◌, ◌<◌, ◌==◌, if◌then◌else◌, List, length, slice_index_or, Option, Some, None}
use Rattle.held_pool.specs.declared.slot_place.Place.{Place}
use Rattle.held_pool.specs.declared.slot.Slot.{Slot}

-- a place that holds a value of that generation, and one whose value of that generation was taken out
abbrev pub filled : {T : Type 0} → ℕ → T → Place T
filled generation value = record { generation = generation; held = Some value }

abbrev pub vacated : {T : Type 0} → ℕ → Place T
vacated generation = record { generation = generation; held = None }

-- the place with that index; where there is none yet, one that was never filled
abbrev pub place_at : {T : Type 0} → List (Place T) → ℕ → Place T
place_at places index = slice_index_or places index (vacated 0)

-- the value that a place holds, if it is of that generation
abbrev pub value_of : {T : Type 0} → Place T → ℕ → Option T
value_of place generation = if place.generation == generation then place.held else None

-- the value of a slot
abbrev pub value_in : {T : Type 0} → List (Place T) → Slot → Option T
value_in places slot = value_of (place_at places slot.index) slot.generation

-- one place is that, and all others stay
abbrev pub ChangesPlace : {T : Type 0} → List (Place T) → List (Place T) → ℕ → Place T → Type 0
ChangesPlace old new one place = (index : ℕ) → place_at new index ≡ (if index == one then place else place_at old index)

-- all places stay
abbrev pub SamePlaces : {T : Type 0} → List (Place T) → List (Place T) → Type 0
SamePlaces old new = (index : ℕ) → place_at new index ≡ place_at old index

-- a value is put into a new slot: its place held none, and the slot is of the next generation there
pub record Puts {T : Type 0} (old new : List (Place T)) (slot : Slot) (value : T) : Type 0 where
  pub vacant : (place_at old slot.index).held ≡ None
  pub next : slot.generation ≡ (place_at old slot.index).generation + 1
  pub changes : ChangesPlace old new slot.index (filled slot.generation value)

-- no value is there, and the slot is that of the next one
pub record IsNext {T : Type 0} (places : List (Place T)) (slot : Slot) : Type 0 where
  pub there : slot.index < length places
  pub vacant : (place_at places slot.index).held ≡ None
  pub next : slot.generation ≡ (place_at places slot.index).generation + 1

-- the slot's value is taken out
pub record Takes {T : Type 0} (old new : List (Place T)) (slot : Slot) (value : T) : Type 0 where
  pub its : value_in old slot ≡ Some value
  pub there : slot.index < length new
  pub changes : ChangesPlace old new slot.index (vacated slot.generation)

-- the slot's value was taken out for a moment: its place is kept for it
pub record IsLifted {T : Type 0} (places : List (Place T)) (slot : Slot) : Type 0 where
  pub there : slot.index < length places
  pub its : place_at places slot.index ≡ vacated slot.generation
