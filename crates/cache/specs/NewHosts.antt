-- The hosts with which a pool begins, and the pass that has a seat at each.
use Rattle.std.specs.Prelude.{◌≡◌, ℕ, ◌<◌, ◌≤◌, List, [], length, Some, None}
use Rattle.budget.specs.Accounts.{account_at}
use Rattle.budget.specs.Limits.{Bounds}
use Rattle.budget.specs.Starts.{Spendings}
use Rattle.bundle.specs.Lease.{HostShown, IsNewHost}
use Rattle.bundle.specs.Passes.{Accounts}
use Rattle.cache.specs.Pools.{PoolShown, host_in, host_at}

-- a seat with which nothing was spent
abbrev pub new_seat : {S : Type 0} → HostShown S → Spendings
new_seat host = record { table = host.tables.starts; spent = 0 }

-- the first number of each host's connections
abbrev pub first_number : ℕ
first_number = 1

-- so many hosts without connections, each at its index, where the pass has a seat; it has none elsewhere
pub record AreNewHosts {S : Type 0} (limits : Bounds) (count : ℕ) (hosts : List (HostShown S)) (pass : Accounts) : Type 0 where
  pub so_many : length hosts ≡ count
  pub each : (index : ℕ) → index < count → IsNewHost limits.host index first_number (host_in hosts index)
  pub enrolled : (index : ℕ) → index < count → (account_at pass index).seat ≡ Some (new_seat (host_in hosts index))
  pub not_yet : (index : ℕ) → count ≤ index → (account_at pass index).seat ≡ None

-- no acquire is halfway at any host
abbrev pub NoneBooked : {S : Type 0} → PoolShown S → Type 0
NoneBooked pool = (host : ℕ) → (host_at pool host).booked ≡ []
