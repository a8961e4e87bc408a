-- The hosts that wait for the total, in the order in which they take turns.
use Rattle.std.specs.Prelude.{◌≡◌, ℕ, ◌<◌, Bool, true, false, not, List, [], ◌∷◌, ◌++◌, take, drop, filter, ◌==◌}
use Rattle.std.specs.List.{list_any}

-- how many hosts there are, and those that are listed, first come first
pub record Queue : Type 0 where
  pub hosts : ℕ
  pub order : List ℕ

abbrev pub is_listed : List ℕ → ℕ → Bool
is_listed order host = list_any (λ listed. listed == host) order

abbrev pub without_host : List ℕ → ℕ → List ℕ
without_host order host = filter (λ listed. not (listed == host)) order

-- the first one goes to the end
abbrev pub turned : List ℕ → List ℕ
turned order = drop 1 order ++ take 1 order

-- no host is listed twice
abbrev pub AreDistinctHosts : List ℕ → Type 0
AreDistinctHosts [] = Unit {0}
AreDistinctHosts (host ∷ others) = (is_listed others host ≡ false) × AreDistinctHosts others

-- the listed hosts are distinct hosts that there are
pub record IsQueue (queue : Queue) : Type 0 where
  pub distinct : AreDistinctHosts queue.order
  pub there : (host : ℕ) → is_listed queue.order host ≡ true → host < queue.hosts
