-- How a lobby lists a host, and the order after the host is marked or had its turn.
use Rattle.std.specs.Prelude.{◌≡◌, ℕ, ◌<◌, Bool, true, false, List, [], ◌∷◌, ◌++◌}
use Rattle.budget.specs.Lobby.{Queue, is_listed, without_host, turned}

-- the lobby lists the host exactly where it is queued
pub record Lists (host : ℕ) (queued : Bool) (lobby : Queue) : Type 0 where
  pub there : host < lobby.hosts
  pub listed : is_listed lobby.order host ≡ queued

-- the order as the host, which was queued or not, is queued or not: it comes last, it leaves, or it stays
abbrev pub order_after : ℕ → Bool → Bool → List ℕ → List ℕ
order_after host false true order = order ++ host ∷ []
order_after host true false order = without_host order host
order_after host _ _ order = order

pub record IsMarked (host : ℕ) (was is : Bool) (old new : Queue) : Type 0 where
  pub hosts : new.hosts ≡ old.hosts
  pub order : new.order ≡ order_after host was is old.order
  pub lists : Lists host is new

-- the order as the host, which was first, had its turn: it goes to the end, or it leaves
abbrev pub order_after_turn : ℕ → Bool → List ℕ → List ℕ
order_after_turn host true order = turned order
order_after_turn host false order = without_host order host

pub record HadTurn (host : ℕ) (is : Bool) (old new : Queue) : Type 0 where
  pub hosts : new.hosts ≡ old.hosts
  pub order : new.order ≡ order_after_turn host is old.order
  pub lists : Lists host is new
