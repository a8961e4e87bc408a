-- The logs of a load.
use Rattle.std.specs.Prelude.{◌≡◌, ℕ, ◌+◌, List, [], ◌∷◌, length}
use Rattle.std.specs.Global.{Vec}
use Rattle.conn_log.specs.declared.entry.Entry.{Entry}
use Rattle.bundle.specs.Lease.{HostShown, IsPartOf}
use Rattle.shared_cache.specs.Inspecting.{IsInspected}
use Rattle.shared_cache.specs.Names.{CacheNames}

-- what a cut hands out of the log of that host of the cache, whose connections are of that type
pub record IsLogOf (S : Type 0) (names : CacheNames) (site : ℕ) (log : List Entry) : Type 0 where
  pub host : HostShown S
  pub inspected : IsInspected names site host
  pub part : IsPartOf host log

-- the logs of hosts one after the other, the first of which has that index
abbrev pub AreLogsFrom : Type 0 → CacheNames → ℕ → List (Vec Entry) → Type 0
AreLogsFrom S names site [] = Unit {0}
AreLogsFrom S names site (log ∷ logs) = IsLogOf S names site log.items × AreLogsFrom S names (site + 1) logs

-- a log for each host
pub record AreLogsOf (S : Type 0) (names : CacheNames) (logs : List (Vec Entry)) : Type 0 where
  pub in_order : AreLogsFrom S names 0 logs
  pub one_each : length logs ≡ length names.hosts
