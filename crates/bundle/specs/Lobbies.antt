-- A lobby that a call may be lent, and how it stands to the host after the call.
use Rattle.std.specs.Prelude.{◌≡◌, ℕ, Bool, true, false, Option, Some, None, ◌⊎◌}
use Rattle.std.specs.Borrow.{MutBor}
use Rattle.std.proofs.Common.{inl, inr}
use Rattle.budget.specs.Lobby.{Queue}
use Rattle.bundle.specs.declared.answers.Served.{Served}
use Rattle.bundle.specs.declared.answers.Served.TheVariants.{Given, Full, Contended}
use Rattle.host_state.specs.Orders.{HadTurn}

-- where a lobby is lent
abbrev pub IfLent : Option (MutBor Queue) → (Queue → Type 0) → Type 0
IfLent None P = Unit {0}
IfLent (Some lobby) P = P lobby.now

-- and as the call leaves it
abbrev pub IfLeft : Option (MutBor Queue) → Unit {0} ⊎ ((MutBor Queue × Unit {0}) ⊎ ⊥) → (Queue → Queue → Type 0) → Type 0
IfLeft None left P = Unit {0}
IfLeft (Some lobby) (inr (inl left)) P = P lobby.now left.0.now
IfLeft (Some lobby) _ P = ⊥

abbrev pub is_lent : Option (MutBor Queue) → Bool
is_lent None = false
is_lent (Some lobby) = true

abbrev pub IsServed : ℕ → Served → Bool → Queue → Queue → Type 0
IsServed host Given is old new = HadTurn host is old new
IsServed host (Full short) is old new = new ≡ old
IsServed host Contended is old new = new ≡ old
