-- How many leases and tickets a transfer has got and has not spent, by what was done for it.
use Rattle.std.specs.Prelude.{◌≡◌, ℕ, ◌+◌, List, ◌++◌, Option, IsSomeAnd, sum_by}
use Rattle.cache_trait.specs.CacheCalls.{CacheCall, AllDone}
use Rattle.cache_trait.specs.CacheCalls.CacheCall.{leases, begins_wait, grants, gives_back, abandons, withdraws, finds_strange_lease, finds_strange_ticket}
use Rattle.exchange.specs.declared.job.Prepared.{Prepared}
use Rattle.exchange.specs.declared.state.State.{State}
use Rattle.exchange.specs.declared.state.State.TheVariants.{Waiting, Dialling, Sending, Reading}
use Rattle.exchange.specs.Worlds.{World}
use Rattle.exchange.specs.Standing.{StandsAt}

abbrev pub leases_got : {W : Type 0} → CacheCall W → ℕ
leases_got (leases lease now) = 1
leases_got (grants lease) = 1
leases_got _ = 0

abbrev pub leases_spent : {W : Type 0} → CacheCall W → ℕ
leases_spent (gives_back lease facts now) = 1
leases_spent (abandons lease now) = 1
leases_spent (finds_strange_lease lease) = 1
leases_spent _ = 0

abbrev pub tickets_got : {W : Type 0} → CacheCall W → ℕ
tickets_got (begins_wait ticket now) = 1
tickets_got _ = 0

abbrev pub tickets_spent : {W : Type 0} → CacheCall W → ℕ
tickets_spent (grants lease) = 1
tickets_spent (withdraws ticket now) = 1
tickets_spent (finds_strange_ticket ticket) = 1
tickets_spent _ = 0

-- by all that was done so many leases and tickets are out
pub record AreOut {W : Type 0} (calls : List (CacheCall W)) (held waiting : ℕ) : Type 0 where
  pub leases_are : sum_by leases_got calls ≡ sum_by leases_spent calls + held
  pub tickets_are : sum_by tickets_got calls ≡ sum_by tickets_spent calls + waiting

-- those that a transfer has there
abbrev pub leases_at : {W : Type 0} → State W → ℕ
leases_at (Dialling lease) = 1
leases_at (Sending lease sent) = 1
leases_at (Reading lease) = 1
leases_at _ = 0

abbrev pub tickets_at : {W : Type 0} → State W → ℕ
tickets_at (Waiting ticket) = 1
tickets_at _ = 0

-- whatever was done that led to where it stands, what it has there is all that is out
abbrev pub HasAllAt : {W : Type 0} → World W → Prepared → State W → Type 0
HasAllAt {W} world p state = (calls : List (CacheCall W)) → StandsAt world p state calls → AreOut calls (leases_at state) (tickets_at state)

abbrev pub HasAll : {W : Type 0} → World W → Prepared → Option (State W) → Type 0
HasAll world p state = IsSomeAnd state (HasAllAt world p)

-- the cache did these calls and nothing else; with them nothing is out any more, if all that was out before is what the
-- transfer has there
abbrev pub SpendsAllAt : {C W : Type 0} → (C → C → CacheCall W → Type 0) → C → C → State W → Type 0
SpendsAllAt {C} {W} did before after state =
    (own : List (CacheCall W)) × AllDone did before after own × ((calls : List (CacheCall W)) → AreOut calls (leases_at state) (tickets_at state) → AreOut (own ++ calls) 0 0)

abbrev pub SpendsAll : {C W : Type 0} → (C → C → CacheCall W → Type 0) → C → C → Option (State W) → Type 0
SpendsAll did before after state = IsSomeAnd state (SpendsAllAt did before after)
