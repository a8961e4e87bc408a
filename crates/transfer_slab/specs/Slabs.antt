-- What a slab shows, and what it knows of its transfers.
use Rattle.std.specs.Prelude.{Bool, ◌≡◌, ◌≢◌, ℕ, ◌⊎◌, List, [], ◌∷◌, ◌++◌, filter_map, slice_get, slice_set, Option, Some, None, IfSome, IsSomeAnd, All}
use Rattle.bundle.specs.Seats.{Tables}
use Rattle.exchange.specs.declared.job.Prepared.{Prepared}
use Rattle.exchange.specs.declared.done.Done.{Done}
use Rattle.exchange.specs.declared.done.Done.TheVariants.{Bad}
use Rattle.exchange.specs.declared.done.Fault.TheVariants.{Cancelled}
use Rattle.exchange.specs.Transfers.{TransferShown}
use Rattle.exchange.specs.Dialling.{DialShown, KeepsCounts}
use Rattle.exchange.specs.Worlds.{World}
use Rattle.exchange.specs.Owning.{IsReady, Owns}
use Rattle.exchange.specs.Standing.{Ends}
use Rattle.exchange.specs.Steps.{BeginsNone}
use Rattle.exchange.specs.Exchanging.{IsTold, Cancels, Closes, GivesUpDial, LeavesDial}
use Rattle.cache_trait.specs.CacheCalls.{CacheCall}

-- its places; for how many of them all memory is there; whether a lease or a ticket was spent; and for how many places
-- there is room in its vector and in the lists of its schedule
pub record SlabShown (W : Type 0) : Type 0 where
  pub slots : List (Option (TransferShown W))
  pub room : ℕ
  pub has_spent : Bool
  pub capacity : ℕ
  pub seats : ℕ

-- a transfer has what was made by the cache with these tables, and what was done for it led to where it stands
pub record IsKept {W : Type 0} (world : World W) (home : List Tables) (transfer : TransferShown W) : Type 0 where
  pub owns : Owns home transfer.parts transfer.state
  pub ready : IsReady transfer.parts
  pub told : IsTold world transfer.parts transfer.state

abbrev pub AreKept : {W : Type 0} → World W → List Tables → List (Option (TransferShown W)) → Type 0
AreKept world home slots = All (λ slot. IfSome slot (IsKept world home)) slots

-- what was done for a transfer of that job led to how it ended; its memory may be prepared again
abbrev pub HasEnded : {W : Type 0} → World W → Done × Prepared → Type 0
HasEnded {W} world ended = IsReady ended.1 × ((calls : List (CacheCall W)) × Ends world ended.1 ended.0 calls)

-- or it was cancelled before
abbrev pub HasClosed : {W : Type 0} → World W → Done × Prepared → Type 0
HasClosed world closed = IsReady closed.1 × ((closed.0 ≡ Bad Cancelled) ⊎ HasEnded world closed)

-- the transfers that stand in those places, in their order
abbrev pub transfers_in : {W : Type 0} → List (Option (TransferShown W)) → List (TransferShown W)
transfers_in slots = filter_map (λ slot. slot) slots

-- the last of those that stood in these places was kept and was closed, at a moment that the clock told: at the cache it was cancelled, and nothing is
-- begun for it at the dial, which stays as it was unless the transfer dialled
pub record ClosesOne {C D W : Type 0} (did : C → C → CacheCall W → Type 0) (world : World W) (home : List Tables) (before after : C) (shown : D → DialShown) (old new : D) (slots left : List (Option (TransferShown W))) (closed : Done × Prepared) : Type 0 where
  pub transfer : TransferShown W
  pub taken : transfers_in slots ≡ transfers_in left ++ (transfer ∷ [])
  pub kept : IsKept world home transfer
  pub moment : ℕ
  pub told : world.tells moment
  pub cancels : Cancels did before after moment transfer.state
  pub closes : Closes closed.0 transfer.state
  pub parts : closed.1 ≡ transfer.parts
  pub begun : GivesUpDial (shown old) (shown new) transfer.parts.want.transfer transfer.state
  pub leaves : LeavesDial old new transfer.state

-- the transfer at that place was kept and was closed, at a moment that the clock told; at the dial nothing is begun for it,
-- and the dial stays as it was unless the transfer dialled; the other places stay as they are
pub record ClosesPlace {C D W : Type 0} (did : C → C → CacheCall W → Type 0) (world : World W) (home : List Tables) (before after : C) (shown : D → DialShown) (old new : D) (slots left : List (Option (TransferShown W))) (place : ℕ) (closed : Done × Prepared) : Type 0 where
  pub transfer : TransferShown W
  pub stood : slice_get slots place ≡ Some (Some transfer)
  pub left_is : left ≡ slice_set slots place None
  pub kept : IsKept world home transfer
  pub moment : ℕ
  pub told : world.tells moment
  pub cancels : Cancels did before after moment transfer.state
  pub closes : Closes closed.0 transfer.state
  pub parts : closed.1 ≡ transfer.parts
  pub begun : GivesUpDial (shown old) (shown new) transfer.parts.want.transfer transfer.state
  pub leaves : LeavesDial old new transfer.state

-- these were closed, the last one first, each at a moment that the clock told, and nothing else was done at the cache
abbrev pub ClosesAll : {C W : Type 0} → (C → C → CacheCall W → Type 0) → World W → C → C → List (TransferShown W) → Type 0
ClosesAll did world before after [] = after ≡ before
ClosesAll {C} did world before after (transfer ∷ others) =
    (middle : C) × ClosesAll did world before middle others × ((moment : ℕ) × world.tells moment × Cancels did middle after moment transfer.state)

-- that number is not the transfer's
abbrev pub IsApart : {W : Type 0} → ℕ → TransferShown W → Type 0
IsApart other transfer = other ≢ transfer.parts.want.transfer

-- nothing is begun for the transfer at the dial any more, if nothing was but while it dialled
abbrev pub IsGivenUp : {W : Type 0} → (ℕ → Type 0) → (ℕ → Type 0) → TransferShown W → Type 0
IsGivenUp old new transfer = IsSomeAnd transfer.state (BeginsNone old transfer.parts.want.transfer) → new transfer.parts.want.transfer → ⊥

-- these were given up at the dial; for no other anything was begun, and what was begun for others still is; nothing was
-- counted
pub record GivesUpAll {W : Type 0} (old new : DialShown) (transfers : List (TransferShown W)) : Type 0 where
  pub counts : KeepsCounts old new
  pub others : (other : ℕ) → new.begun other → old.begun other
  pub kept : (other : ℕ) → All (IsApart {W = W} other) transfers → old.begun other → new.begun other
  pub own : All (IsGivenUp {W = W} old.begun new.begun) transfers

-- one, if there is a transfer
abbrev pub one_if_some : {W : Type 0} → Option (TransferShown W) → ℕ
one_if_some (Some transfer) = 1
one_if_some None = 0

-- that is the number of the transfer at that place
abbrev pub HasNumberAt : {W : Type 0} → List (Option (TransferShown W)) → ℕ → ℕ → Type 0
HasNumberAt {W} slots place number = (transfer : TransferShown W) × (slice_get slots place ≡ Some (Some transfer)) × (number ≡ transfer.parts.want.transfer)

-- no transfer stands there
abbrev pub HasNoneAt : {W : Type 0} → List (Option (TransferShown W)) → ℕ → Type 0
HasNoneAt slots place = IfSome (slice_get slots place) (λ slot. slot ≡ None)
