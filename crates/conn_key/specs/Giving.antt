-- How a host is given a place, and when it is given none.
use Rattle.std.specs.Prelude.{◌≡◌, ◌⊎◌, ℕ, ◌<◌, Bool, true, false, List, length, Some, None}
use Rattle.conn_key.specs.Hosts.{Hosts, place_of, with_host, with_host_at}
use Rattle.conn_key.specs.declared.place_table.PlaceError.{PlaceError}
use Rattle.conn_key.specs.declared.place_table.PlaceError.TheVariants.{Full, Memory}

-- The place that a host is given: its own; else the next one that nobody was given; else, once all were given, one that
-- is unused.
pub data Gives (unused : ℕ → Bool) (old : Hosts) (key : List ℕ) (place : ℕ) (new : Hosts) : Type 0 where
  own : place_of old key ≡ Some place → new ≡ old → Gives unused old key place new
  next : place_of old key ≡ None → place ≡ length old.keys → place < old.places → new ≡ with_host old key
      → Gives unused old key place new
  anew : place_of old key ≡ None → length old.keys ≡ old.places → place < old.places → unused place ≡ true
      → new ≡ with_host_at old place key → Gives unused old key place new

-- no place is left to be given, and none is unused
pub record AllAreInUse (unused : ℕ → Bool) (old : Hosts) : Type 0 where
  pub all_given : length old.keys ≡ old.places
  pub none_unused : (place : ℕ) → place < old.places → unused place ≡ false

-- there is a place to give
abbrev pub HasPlace : (ℕ → Bool) → Hosts → Type 0
HasPlace unused old = (length old.keys < old.places) ⊎ ((place : ℕ) × (place < old.places) × (unused place ≡ true))

-- a host without a place is refused one: all are in use, or there is one, but no memory
abbrev pub Refuses : (ℕ → Bool) → Hosts → List ℕ → PlaceError → Type 0
Refuses unused old key Full = (place_of old key ≡ None) × AllAreInUse unused old
Refuses unused old key Memory = (place_of old key ≡ None) × HasPlace unused old
