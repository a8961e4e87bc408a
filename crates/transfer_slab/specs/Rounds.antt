-- What joins a slab, and what its rounds do: polls of transfers that stand there, one after another, and nothing else.
use Rattle.std.specs.Prelude.{◌≡◌, ℕ, ◌⊎◌, List, [], ◌∷◌, ◌++◌, length, slice_get, slice_set, Option, Some, None, IsSomeAnd}
use Rattle.cache_trait.specs.CacheCalls.{CacheCall}
use Rattle.exchange.specs.declared.job.Prepared.{Prepared}
use Rattle.transfer_slab.specs.declared.ended.Ended.{Ended}
use Rattle.exchange.specs.declared.state.State.TheVariants.{Asking, Finished}
use Rattle.exchange.specs.Transfers.{TransferShown}
use Rattle.exchange.specs.Dialling.{DialShown}
use Rattle.exchange.specs.Worlds.{World}
use Rattle.exchange.specs.Exchanging.{IsGoing, IsPolled}

-- a new transfer of what was prepared stands at that place, where none stood, or behind all others
pub record Joins {W : Type 0} (slots more : List (Option (TransferShown W))) (parts : Prepared) (place : ℕ) : Type 0 where
  pub transfer : TransferShown W
  pub its : transfer.parts ≡ parts
  pub begins : transfer.state ≡ Some Asking
  pub stands : ((slice_get slots place ≡ Some None) × (more ≡ slice_set slots place (Some transfer))) ⊎ ((place ≡ length slots) × (more ≡ slots ++ (Some transfer ∷ [])))

-- a transfer that has not ended stands at its place again; one that has is taken out, and where and how it ended is answered
abbrev pub LeavesPlace : {W : Type 0} → List (Option (TransferShown W)) → List (Option (TransferShown W)) → ℕ → TransferShown W → Option Ended → Type 0
LeavesPlace slots left place next None = (left ≡ slice_set slots place (Some next)) × IsSomeAnd next.state IsGoing
LeavesPlace slots left place next (Some ended) = (left ≡ slice_set slots place None) × (next.state ≡ Some (Finished ended.done)) × (ended.parts ≡ next.parts) × (ended.place ≡ place)

-- the transfer that stood at that place was polled, and nothing else was done
pub record PollsPlace {C D W : Type 0} (did : C → C → CacheCall W → Type 0) (world : World W) (shown : D → DialShown) (before after : C) (old new : D) (slots left : List (Option (TransferShown W))) (place : ℕ) (ended : Option Ended) : Type 0 where
  pub transfer : TransferShown W
  pub next : TransferShown W
  pub stood : slice_get slots place ≡ Some (Some transfer)
  pub polled : IsPolled did world before after (shown old) (shown new) transfer next
  pub leaves : LeavesPlace slots left place next ended

-- it was, or no transfer stood there, and nothing was done
abbrev pub TriesPlace : {C D W : Type 0} → (C → C → CacheCall W → Type 0) → World W → (D → DialShown) → C → C → D → D → List (Option (TransferShown W)) → List (Option (TransferShown W)) → ℕ → Option Ended → Type 0
TriesPlace did world shown before after old new slots left place ended =
    PollsPlace did world shown before after old new slots left place ended ⊎ ((ended ≡ None) × (after ≡ before) × (new ≡ old) × (left ≡ slots))

-- the transfers at these places were polled, the last one first, without one that ended, and nothing else was done
abbrev pub PollsPlaces : {C D W : Type 0} → (C → C → CacheCall W → Type 0) → World W → (D → DialShown) → C → C → D → D → List (Option (TransferShown W)) → List (Option (TransferShown W)) → List ℕ → Type 0
PollsPlaces did world shown before after old new slots left [] = (after ≡ before) × (new ≡ old) × (left ≡ slots)
PollsPlaces {C} {D} {W} did world shown before after old new slots left (place ∷ earlier) =
    (cache : C) × (dial : D) × (middle : List (Option (TransferShown W))) × PollsPlaces did world shown before cache old dial slots middle earlier × PollsPlace did world shown cache after dial new middle left place None

-- some were, and after them the one, if any, that has ended
abbrev pub PollsInTurn : {C D W : Type 0} → (C → C → CacheCall W → Type 0) → World W → (D → DialShown) → C → C → D → D → List (Option (TransferShown W)) → List (Option (TransferShown W)) → Option Ended → Type 0
PollsInTurn did world shown before after old new slots left None = (places : List ℕ) × PollsPlaces did world shown before after old new slots left places
PollsInTurn {C} {D} {W} did world shown before after old new slots left (Some ended) =
    (places : List ℕ) × (cache : C) × (dial : D) × (middle : List (Option (TransferShown W))) × PollsPlaces did world shown before cache old dial slots middle places × ((place : ℕ) × PollsPlace did world shown cache after dial new middle left place (Some ended))
