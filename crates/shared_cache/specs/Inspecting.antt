-- The bundle that an inspection is lent.
use Rattle.std.specs.Prelude.{◌≡◌, ℕ, ◌≤◌, length}
use Rattle.conn_log.specs.Connections.{open_connections}
use Rattle.conn_log.specs.Legal.{IsLegal, IsQuiet, limit_in_force}
use Rattle.host_state.specs.Calls.{is_queued}
use Rattle.bundle.specs.Lease.{HostShown}
use Rattle.shared_cache.specs.Names.{CacheNames, HasTables, terms_of}

-- the cache's own bundle of that site, legal, quiet, and within the limit in force
pub record IsInspected {S : Type 0} (names : CacheNames) (site : ℕ) (host : HostShown S) : Type 0 where
  pub place : host.host ≡ site
  pub tables : HasTables names site host.tables
  pub terms : host.settings ≡ terms_of names.limits
  pub legal : IsLegal host.settings host.log
  pub quiet : IsQuiet host.settings (is_queued host.settings host.log) host.log
  pub within : length (open_connections host.log) ≤ limit_in_force host.settings host.log
