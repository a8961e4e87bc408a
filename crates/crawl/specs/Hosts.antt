-- The places of the hosts of a crawl.
use Rattle.std.specs.Prelude.{◌≡◌, ◌⊎◌, ◌<◌, ◌++◌, ◌∷◌, [], ℕ, Bool, true, false, List, length, slice_get, unwrap_or, Some}
use Rattle.std.specs.List.{All}
use Rattle.conn_key.specs.Hosts.{Hosts}
use Rattle.crawl.specs.declared.in_flight.InFlight.{InFlight}

-- a transfer is in flight at a place, or about to begin there
abbrev pub is_in_use : List Bool → ℕ → Bool
is_in_use in_use place = unwrap_or (slice_get in_use place) false

-- each place in use stays so, and its host keeps it
pub record KeepsInUse (old new : Hosts) (old_in_use new_in_use : List Bool) : Type 0 where
  pub hosts : (place : ℕ) (host : List ℕ) → is_in_use old_in_use place ≡ true → slice_get old.keys place ≡ Some host
      → slice_get new.keys place ≡ Some host
  pub in_use : (place : ℕ) → is_in_use old_in_use place ≡ true → is_in_use new_in_use place ≡ true

-- one place more, which is not in use, or none
abbrev pub GrowsOrStays : List Bool → List Bool → Type 0
GrowsOrStays old new = (new ≡ old) ⊎ (new ≡ old ++ false ∷ [])

-- the place of a transfer is in use, if it is one of the places
abbrev pub IsInUse : List Bool → InFlight → Type 0
IsInUse in_use one = one.place < length in_use → is_in_use in_use one.place ≡ true

-- the places of these transfers are in use
abbrev pub AreInUse : List Bool → List InFlight → Type 0
AreInUse in_use transfers = All (λ (one : InFlight). is_in_use in_use one.place ≡ true) transfers
