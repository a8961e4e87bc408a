-- Several hosts under one total limit, as a monitor sees them, and what is unsettled while a pool is at rest.
use Rattle.std.specs.Prelude.{◌≡◌, ℕ, ◌+◌, ◌≤◌, ◌<◌, ◌^◌, Bool, nat_lt, ◌&&◌, ◌||◌, if◌then◌else◌, List, [], ◌∷◌, length, replicate, slice_index_or, slice_set, Option, Some, None, is_some}
use Rattle.std.specs.Option.{option_or, option_and_then}
use Rattle.std.specs.List.{All, sum_by}
use Rattle.budget.specs.Limits.{Bounds}
use Rattle.conn_log.specs.declared.entry.Want.{Want}
use Rattle.conn_log.specs.declared.entry.Entry.{Entry}
use Rattle.log_judge.specs.declared.unrest.Unrest.{Unrest}
use Rattle.log_judge.specs.declared.unrest.Unrest.TheVariants.{PastTotal, PastKept, WaiterBesideIdle, WaiterBesideRoom}
use Rattle.log_judge.specs.declared.totals.Totals.{Totals}
use Rattle.log_judge.specs.Tables.{HostLog, open_at, idle_at, limit_at, first_waiter, IsSmall}

-- the limits of all hosts, and what was taken at each, by its index
pub record AllHosts : Type 0 where
  pub limits : Bounds
  pub hosts : List HostLog

-- a host of that limit, before any entry
abbrev pub begun : ℕ → HostLog
begun limit = record { settings = record { limit = limit; first = 1 }; log = [] }

abbrev pub begun_hosts : Bounds → ℕ → AllHosts
begun_hosts limits count = record { limits = limits; hosts = replicate count (begun limits.host) }

abbrev pub host_at : AllHosts → ℕ → HostLog
host_at all site = slice_index_or all.hosts site (begun 0)

-- one host has one more entry
abbrev pub more_at : ℕ → Entry → AllHosts → AllHosts
more_at site e all = let host = host_at all site in record all { hosts = slice_set all.hosts site (record host { log = e ∷ host.log }) }

-- a transfer waits beside an idle connection, or beside room for one more
abbrev pub waits_beside_idle : HostLog → Bool
waits_beside_idle host = is_some (first_waiter host) && nat_lt 0 (idle_at host)

abbrev pub waits_beside_room : HostLog → Bool
waits_beside_room host = is_some (first_waiter host) && nat_lt (open_at host) (limit_at host)

abbrev pub one_if : Bool → ℕ
one_if test = if test then 1 else 0

-- totals: what a host adds to each
abbrev pub totals_at : HostLog → Totals
totals_at host = record { open_len = open_at host; idle_len = idle_at host; beside_idle = one_if (waits_beside_idle host); beside_room = one_if (waits_beside_room host) }

-- the total limit lets one more connection be opened, or an idle one, which may be closed for it, is there (libcurl's
-- CURLMOPT_MAX_TOTAL_CONNECTIONS)
abbrev pub has_room : AllHosts → Bool
has_room all = nat_lt (sum_by open_at all.hosts) all.limits.total || nat_lt 0 (sum_by idle_at all.hosts)

-- what is unsettled at rest: the total limit is exceeded; more is kept than may be (CURLMOPT_MAXCONNECTS); a transfer
-- waits at a host where a connection is idle; it waits though the host and the total have room
abbrev pub past_total : AllHosts → Option Unrest
past_total all = let count = sum_by open_at all.hosts in if nat_lt all.limits.total count then Some (PastTotal count all.limits.total) else None

abbrev pub past_kept : AllHosts → Option Unrest
past_kept all = let count = sum_by idle_at all.hosts in if nat_lt all.limits.connects count then Some (PastKept count all.limits.connects) else None

abbrev pub beside_idle : ℕ → HostLog → Option Unrest
beside_idle site host = option_and_then (λ (want : Want). if nat_lt 0 (idle_at host) then Some (WaiterBesideIdle site want.transfer) else None) (first_waiter host)

abbrev pub beside_room : Bool → ℕ → HostLog → Option Unrest
beside_room roomy site host = option_and_then (λ (want : Want). if roomy && nat_lt (open_at host) (limit_at host) then Some (WaiterBesideRoom site want.transfer (open_at host) (limit_at host)) else None) (first_waiter host)

-- of some hosts, the first of which has that index, what is unsettled at the first that is not settled
abbrev pub first_waiting : Bool → ℕ → List HostLog → Option Unrest
first_waiting roomy site [] = None
first_waiting roomy site (host ∷ hosts) = option_or (option_or (beside_idle site host) (beside_room roomy site host)) (first_waiting roomy (site + 1) hosts)

-- first unrest: of what is unsettled the first, in that order, host after host
abbrev pub first_unrest : AllHosts → Option Unrest
first_unrest all = option_or (option_or (past_total all) (past_kept all)) (first_waiting (has_room all) 0 all.hosts)

-- of totals that host's part is taken away and another added
pub record Exchanges (old before after new : Totals) : Type 0 where
  pub open_len : new.open_len + before.open_len ≡ old.open_len + after.open_len
  pub idle_len : new.idle_len + before.idle_len ≡ old.idle_len + after.idle_len
  pub beside_idle : new.beside_idle + before.beside_idle ≡ old.beside_idle + after.beside_idle
  pub beside_room : new.beside_room + before.beside_room ≡ old.beside_room + after.beside_room

-- each of these totals is a part of that one
pub record IsPart (part whole : Totals) : Type 0 where
  pub open_len : part.open_len ≤ whole.open_len
  pub idle_len : part.idle_len ≤ whole.idle_len
  pub beside_idle : part.beside_idle ≤ whole.beside_idle
  pub beside_room : part.beside_room ≤ whole.beside_room

-- so small that another host's part fits beside them
pub record AreSmall (totals : Totals) : Type 0 where
  pub open_len : totals.open_len < 2 ^ 32
  pub idle_len : totals.idle_len < 2 ^ 32
  pub beside_idle : totals.beside_idle < 2 ^ 32
  pub beside_room : totals.beside_room < 2 ^ 32

pub record HaveRoom (totals : Totals) : Type 0 where
  pub open_len : totals.open_len + 2 ^ 32 ≤ 2 ^ 64
  pub idle_len : totals.idle_len + 2 ^ 32 ≤ 2 ^ 64
  pub beside_idle : totals.beside_idle + 2 ^ 32 ≤ 2 ^ 64
  pub beside_room : totals.beside_room + 2 ^ 32 ≤ 2 ^ 64

-- the totals are those of the hosts, which are so few, each so small, that the totals fit a word
pub record AreCounted (totals : Totals) (hosts : List HostLog) : Type 0 where
  pub open_len : totals.open_len ≡ sum_by open_at hosts
  pub idle_len : totals.idle_len ≡ sum_by idle_at hosts
  pub beside_idle : totals.beside_idle ≡ sum_by (λ (host : HostLog). one_if (waits_beside_idle host)) hosts
  pub beside_room : totals.beside_room ≡ sum_by (λ (host : HostLog). one_if (waits_beside_room host)) hosts
  pub small : All IsSmall hosts
  pub few : length hosts < 2 ^ 32
