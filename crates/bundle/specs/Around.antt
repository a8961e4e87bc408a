-- What a host's calls are lent, and how they leave it: permits of a budget, a lobby, a pass, and the host itself.
use Rattle.std.specs.Prelude.{◌≡◌, true, false, Option, ◌⊎◌}
use Rattle.std.specs.Borrow.{MutBor}
use Rattle.budget.specs.declared.permits.Held.{Held}
use Rattle.budget.specs.Lobby.{Queue}
use Rattle.budget.specs.Accounts.{KeepsSeats}
use Rattle.host_state.specs.Calls.{is_queued, GrowsBy}
use Rattle.host_state.specs.Orders.{Lists, IsMarked}
use Rattle.bundle.specs.Lease.{HostShown, StaysThere, KeepsAll, KeepsStreams}
use Rattle.bundle.specs.Lobbies.{IfLent, IfLeft, is_lent}
use Rattle.bundle.specs.Passes.{Accounts, AccountsForStarts}

-- the permits are a part of their budget, which holds this much
pub record HoldsPart {X : Type 0} (Stands : X → Type 0) (held_in : X → Held) (much : Held) (permits : X) : Type 0 where
  pub stands : Stands permits
  pub part : held_in permits ≡ much

-- after the call they are the same part of the same budget, which holds this much
pub record MovesPart {X : Type 0} (Stands : X → Type 0) (Stays : X → X → Type 0) (held_in : X → Held) (much : Held) (permits later : X) : Type 0 where
  pub stands : Stands later
  pub stays : Stays permits later
  pub part : held_in later ≡ much

-- a queued host is lent the lobby, which lists the host exactly if it is queued
pub record IsLentTo {S : Type 0} (host : HostShown S) (lobby : Option (MutBor Queue)) : Type 0 where
  pub lent : is_queued host.settings host.log ≡ true → is_lent lobby ≡ true
  pub lists : IfLent lobby (Lists host.host (is_queued host.settings host.log))

-- after the call the lobby lists the host exactly if it is queued then; a host that was not queued is not queued
pub record LeavesLobby {S : Type 0} (old new : HostShown S) (entry : Option (MutBor Queue)) (exit : Unit {0} ⊎ ((MutBor Queue × Unit {0}) ⊎ ⊥)) : Type 0 where
  pub marked : IfLeft entry exit (IsMarked old.host (is_queued old.settings old.log) (is_queued new.settings new.log))
  pub mark : is_queued old.settings old.log ≡ false → is_queued new.settings new.log ≡ false

-- the pass keeps its seats, and spends as many starts at the host as end there
pub record KeepsPass {S : Type 0} (old new : HostShown S) (before after : Accounts) : Type 0 where
  pub seats : KeepsSeats before after
  pub account : AccountsForStarts old new before after

-- the host stays what it is; its log only grows, and nothing of it is cut away
pub record StaysHost {S : Type 0} (old new : HostShown S) : Type 0 where
  pub same : StaysThere old new
  pub booked : new.booked ≡ old.booked
  pub grew : GrowsBy old.log new.log

-- and no lease or ticket changes, nor does the stream of a connection that is open afterwards
pub record KeepsUses {S : Type 0} (old new : HostShown S) : Type 0 where
  pub stays : StaysHost old new
  pub keeps : KeepsAll old new
  pub streams : KeepsStreams old new
