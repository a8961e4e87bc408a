-- The account of a shared cache that is gathered.
use Rattle.std.specs.Prelude.{◌≡◌, ℕ, suc, ◌+◌, ◌<◌, ◌≤◌, List, [], ◌∷◌, length, map, Some, slice_get}
use Rattle.std.specs.List.{All, sum_by}
use Rattle.conn_log.specs.declared.entry.Entry.{Entry}
use Rattle.conn_log.specs.Connections.{open_connections, idle_connections}
use Rattle.conn_log.specs.Waiting.{waiting}
use Rattle.conn_log.specs.Legal.{IsLegal}
use Rattle.conn_log.specs.Counts.{counts}
use Rattle.conn_log.specs.Starts.{start_count}
use Rattle.budget.specs.declared.refusal.Refusal.{Refusal}
use Rattle.budget.specs.declared.refusal.Refusal.TheVariants.{Memory, Busy, PassesMissing}
use Rattle.host_state.specs.Calls.{leased_len}
use Rattle.bundle.specs.Passes.{Accounts, spent_with}
use Rattle.shared_cache.specs.declared.gathered.Gathered.{Gathered}
use Rattle.shared_cache.specs.Names.{CacheNames, terms_of}
use Rattle.shared_cache.specs.Locked.{HostUnder, IsHostUnder}
use Rattle.bundle.specs.Lease.{HostShown}
use Rattle.shared_cache.specs.Counting.{tables_of, logs_of, host_count}

-- no connection is held, and nobody waits
pub record IsFree (log : List Entry) : Type 0 where
  pub none_held : leased_len log ≡ 0
  pub none_waits : waiting log ≡ []

-- over all hosts: how many connections were opened, and closed, how many are open, and how many idle
abbrev pub opened_at_all : List (List Entry) → ℕ
opened_at_all logs = sum_by (λ log. (counts log).opened) logs

abbrev pub closed_at_all : List (List Entry) → ℕ
closed_at_all logs = sum_by (λ log. (counts log).closed) logs

abbrev pub open_at_all : List (List Entry) → ℕ
open_at_all logs = sum_by (λ log. length (open_connections log)) logs

abbrev pub idle_at_all : List (List Entry) → ℕ
idle_at_all logs = sum_by (λ log. length (idle_connections log)) logs

-- The hosts that were counted are the cache's own, in their order; each log is legal, nothing is held there, and nobody
-- waits. In total those opened less those closed are open, all of them idle; neither number is above its limit. At each
-- host the passes have spent as many leases as its log has starts.
pub record IsGathered {S : Type 0} (names : CacheNames) (passes : List Accounts) (gathered : Gathered S) : Type 0 where
  pub own : tables_of gathered.bundles.items ≡ names.hosts
  pub legal : All (IsLegal (terms_of names.limits)) (logs_of gathered.bundles.items)
  pub free : All IsFree (logs_of gathered.bundles.items)
  pub hosts_counted : gathered.hosts.items ≡ map host_count (logs_of gathered.bundles.items)
  pub total_open : gathered.total ≡ open_at_all (logs_of gathered.bundles.items)
  pub total_left : gathered.total + closed_at_all (logs_of gathered.bundles.items) ≡ opened_at_all (logs_of gathered.bundles.items)
  pub total_within : gathered.total ≤ names.limits.total
  pub kept_idle : gathered.kept ≡ idle_at_all (logs_of gathered.bundles.items)
  pub all_kept : gathered.kept ≡ gathered.total
  pub kept_within : gathered.kept ≤ names.limits.connects
  pub spent : (host : ℕ) (log : List Entry) → slice_get (logs_of gathered.bundles.items) host ≡ Some log → spent_with host passes ≡ start_count log

-- why a cache may not be gathered: so many connections or transfers are in use, passes are missing, or memory is short
abbrev pub IsAgainstGathering : Refusal → Type 0
IsAgainstGathering (Busy in_use) = 0 < in_use
IsAgainstGathering PassesMissing = Unit {0}
IsAgainstGathering Memory = Unit {0}
IsAgainstGathering _ = ⊥

-- a host that may be gathered: it is in its place, it is free, and the passes have spent the leases of its starts
pub record IsSettledAt {S : Type 0} (names : CacheNames) (passes : List Accounts) (place : ℕ) (under : HostUnder S) : Type 0 where
  pub under_its_lock : IsHostUnder names under
  pub place_is : under.host.host ≡ place
  pub legal : IsLegal (terms_of names.limits) under.host.log
  pub free : IsFree under.host.log
  pub spent : spent_with place passes ≡ start_count under.host.log

-- such hosts, with the indices from that one on
abbrev pub AreSettledFrom : {S : Type 0} → CacheNames → List Accounts → ℕ → List (HostUnder S) → Type 0
AreSettledFrom names passes place [] = Unit {0}
AreSettledFrom names passes place (under ∷ others) =
    IsSettledAt names passes place under × AreSettledFrom names passes (suc place) others

-- the hosts without their seats
abbrev pub hosts_under : {S : Type 0} → List (HostUnder S) → List (HostShown S)
hosts_under {S} hosts = map (λ (under : HostUnder S). under.host) hosts
