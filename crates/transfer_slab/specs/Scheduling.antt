-- Which places of a slab are polled next: each place is in one list.
use Rattle.std.specs.Prelude.{◌≡◌, ◌==◌, ℕ, zero, suc, ◌+◌, ◌⊎◌, Bool, true, false, List, slice_get, Option, Some, None, IfSome, IsSomeAnd}
use Rattle.futures.specs.LinkedLists.{LinkedLists, list_of, IsEmpty, Moves}
use Rattle.exchange.specs.declared.state.State.{State}
use Rattle.exchange.specs.Transfers.{TransferShown}
use Rattle.exchange.specs.Waiting.{is_waiting, HasTicket, IsAtWire}
use Rattle.exchange.specs.Stepping.{has_lease}

-- the lists of free places, of parked ones, and of those that wait at a site; there are two lists of places that are due, for
-- this round and for the next one
abbrev pub free_list : ℕ
free_list = 0

abbrev pub parked_list : ℕ
parked_list = 1

abbrev pub IsDueList : ℕ → Type 0
IsDueList list = (list ≡ 2) ⊎ (list ≡ 3)

abbrev pub site_list_of : ℕ → ℕ
site_list_of site = 4 + site

-- it is due; or it is parked, since it waits for its dial or its wire; or it waits at its own site
abbrev pub IsListFor : {W : Type 0} → TransferShown W → ℕ → Type 0
IsListFor transfer list = IsDueList list ⊎ (((list ≡ parked_list) × IsAtWire transfer) ⊎ ((list ≡ site_list_of transfer.parts.site) × HasTicket transfer))

-- the same as a question: whether it waits for dial or wire, or at its own site, and whether the list is for it
abbrev pub awaits_wire : {W : Type 0} → Bool → Option (State W) → Bool
awaits_wire true state = false
awaits_wire false None = false
awaits_wire false (Some state) = has_lease state

abbrev pub awaits_grant : {W : Type 0} → Bool → Option (State W) → Bool
awaits_grant false state = false
awaits_grant true None = false
awaits_grant true (Some state) = is_waiting state

abbrev pub suits : {W : Type 0} → TransferShown W → ℕ → Bool
suits transfer zero = false
suits transfer (suc zero) = awaits_wire transfer.has_yielded transfer.state
suits transfer (suc (suc zero)) = true
suits transfer (suc (suc (suc zero))) = true
suits transfer (suc (suc (suc (suc site)))) = awaits_grant (site == transfer.parts.site) transfer.state

-- whether a place stands in its list: one without a transfer is free, and one that is not there is in none
abbrev pub stands_in : {W : Type 0} → Option (Option (TransferShown W)) → Option ℕ → Bool
stands_in None None = true
stands_in None (Some list) = false
stands_in (Some slot) None = false
stands_in (Some None) (Some list) = list == free_list
stands_in (Some (Some transfer)) (Some list) = suits transfer list

abbrev pub StandsIn : {W : Type 0} → Option (Option (TransferShown W)) → Option ℕ → Type 0
StandsIn slot list = stands_in slot list ≡ true

-- each place is in its list: where a transfer stands, that is the due list, the parked one or the one of its own site
pub record IsScheduled {W : Type 0} (slots : List (Option (TransferShown W))) (lists : LinkedLists) : Type 0 where
  pub stands : (place : ℕ) → StandsIn (slice_get slots place) (list_of lists place)

-- the place is in such a list now, and every other one where it was
pub record Becomes (old new : LinkedLists) (place : ℕ) (Fits : ℕ → Type 0) : Type 0 where
  pub list : ℕ
  pub fits : Fits list
  pub moves : Moves old new place (Some list)

-- each place is where it was, or was parked and is due
abbrev pub IsWoken : Option ℕ → Option ℕ → Type 0
IsWoken old new = (new ≡ old) ⊎ ((old ≡ Some parked_list) × IsSomeAnd new IsDueList)

abbrev pub Wakes : LinkedLists → LinkedLists → Type 0
Wakes old new = (place : ℕ) → IsWoken (list_of old place) (list_of new place)

-- no place is due
pub record HasNoneDue (lists : LinkedLists) : Type 0 where
  pub even : IsEmpty lists 2
  pub odd : IsEmpty lists 3

-- a transfer waits for its dial or its wire, or for a connection
abbrev pub IsIdle : {W : Type 0} → TransferShown W → Type 0
IsIdle transfer = IsAtWire transfer ⊎ HasTicket transfer

-- each transfer does
abbrev pub AreIdle : {W : Type 0} → List (Option (TransferShown W)) → Type 0
AreIdle {W} slots = (place : ℕ) → IfSome (slice_get slots place) (λ slot. IfSome slot (IsIdle {W = W}))
