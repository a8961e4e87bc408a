-- All hosts of a pool: what each has logged, and which of them are queued for room in total. Steps take all hosts
-- last, so that they read in their order.
use Rattle.std.specs.Prelude.{◌≡◌, ℕ, zero, suc, ◌<◌, ◌≤◌, Bool, true, false, nat_lt, ◌&&◌, ◌||◌, if◌then◌else◌, List, [], ◌∷◌, ◌++◌, length, slice_index_or, slice_set, Option, Some, None}
use Rattle.std.specs.List.{sum_by}
use Rattle.budget.specs.Limits.{Bounds}
use Rattle.budget.specs.Lobby.{is_listed, without_host, AreDistinctHosts}
use Rattle.budget.specs.declared.permits.Try.TheVariants.{Got}
use Rattle.conn_log.specs.declared.stamp.Stamp.{Stamp}
use Rattle.conn_log.specs.declared.entry.Cause.{Cause}
use Rattle.conn_log.specs.declared.entry.Cause.TheVariants.{TotalRoom}
use Rattle.conn_log.specs.declared.entry.Event.TheVariants.{Closed}
use Rattle.conn_log.specs.declared.entry.Entry.{Entry}
use Rattle.conn_log.specs.Waiting.{waiting}
use Rattle.conn_log.specs.Legal.{LimitAndFirst}
use Rattle.host_state.specs.Steps.{moment_at, add}
use Rattle.host_state.specs.Calls.{after_turn, is_queued}
use Rattle.host_state.specs.Effects.{open_len, idle_len}
use Rattle.host_state.specs.Laws.{IsSoundAndQuiet}
use Rattle.host_state.specs.Orders.{order_after_turn}
use Rattle.cache.specs.Oldest.{earliest, stamps_from}

pub record AllHosts : Type 0 where
  pub logs : List (List Entry)
  pub queue : List ℕ

-- the log of a host, by its index
abbrev pub log_at : AllHosts → ℕ → List Entry
log_at all host = slice_index_or all.logs host []

-- that of one host becomes this
abbrev pub with_log : ℕ → List Entry → AllHosts → AllHosts
with_log host log all = record all { logs = slice_set all.logs host log }

-- what each host begins with: its limit, and 1 as the number of its first connection
abbrev pub terms : Bounds → LimitAndFirst
terms limits = record { limit = limits.host; first = 1 }

-- total: how many connections are open, over all hosts (CURLMOPT_MAX_TOTAL_CONNECTIONS)
abbrev pub total : AllHosts → ℕ
total all = sum_by open_len all.logs

-- kept: how many of them are idle (CURLMOPT_MAXCONNECTS)
abbrev pub kept : AllHosts → ℕ
kept all = sum_by idle_len all.logs

-- the total has room, and a connection more can be kept
abbrev pub has_room : Bounds → AllHosts → Bool
has_room limits all = nat_lt (total all) limits.total

abbrev pub can_keep : Bounds → AllHosts → Bool
can_keep limits all = nat_lt (kept all) limits.connects

-- how many transfers wait
abbrev pub waiting_len : List Entry → ℕ
waiting_len log = length (waiting log)

abbrev pub total_waiting : AllHosts → ℕ
total_waiting all = sum_by waiting_len all.logs

-- the oldest of all: of the idle connections the one idle for the longest; on a tie that of the lower host
abbrev pub oldest_of_all : AllHosts → Option Stamp
oldest_of_all all = earliest (stamps_from 0 all.logs)

-- it is closed for others, where there is one
abbrev pub closed_of : Cause → ℕ → Option Stamp → AllHosts → AllHosts
closed_of cause now None all = all
closed_of cause now (Some stamp) all = let log = log_at all stamp.host in with_log stamp.host (add (moment_at log now) (Closed stamp.number cause) log) all

abbrev pub without_oldest : Cause → ℕ → AllHosts → AllHosts
without_oldest cause now all = closed_of cause now (oldest_of_all all) all

-- the queue has a host exactly where that is queued: it comes last, it leaves, or it stays
abbrev pub queue_after : ℕ → Bool → List ℕ → List ℕ
queue_after host false queue = without_host queue host
queue_after host true queue = if is_listed queue host then queue else queue ++ host ∷ []

abbrev pub marked : Bounds → ℕ → AllHosts → AllHosts
marked limits host all = record all { queue = queue_after host (is_queued (terms limits) (log_at all host)) all.queue }

-- a turn of a host: one connection is opened for the first transfer that waits there; then the host goes to the
-- queue's end, or leaves the queue where it is queued no more
abbrev pub after_turn_of : ℕ → Bounds → ℕ → AllHosts → AllHosts
after_turn_of host limits now all =
    let log = after_turn Got (terms limits) (log_at all host) now in
    record { logs = slice_set all.logs host log; queue = order_after_turn host (is_queued (terms limits) log) all.queue }

-- where the total has no room the oldest of all makes room
abbrev pub with_room : Bounds → ℕ → AllHosts → AllHosts
with_room limits now all = if has_room limits all then all else without_oldest TotalRoom now all

-- the turn of the first host that is queued
abbrev pub turn_of_first : List ℕ → Bounds → ℕ → AllHosts → AllHosts
turn_of_first [] limits now all = all
turn_of_first (host ∷ others) limits now all = after_turn_of host limits now (with_room limits now all)

-- a turn is possible: a host is queued, and the total has room, or an idle connection can make room
abbrev pub is_any : List ℕ → Bool
is_any [] = false
is_any (host ∷ others) = true

abbrev pub may_turn : Bounds → AllHosts → Bool
may_turn limits all = is_any all.queue && (has_room limits all || nat_lt 0 (kept all))

-- turns are taken as long as one is possible, and at most so many
abbrev pub after_turns : ℕ → Bounds → ℕ → AllHosts → AllHosts
after_turns zero limits now all = all
after_turns (suc n) limits now all = if may_turn limits all then after_turns n limits now (turn_of_first all.queue limits now all) else all

-- served: each turn ends a wait, so there are no more turns than transfers that wait
abbrev pub served : Bounds → ℕ → AllHosts → AllHosts
served limits now all = after_turns (total_waiting all) limits now all

-- lawful: each log is sound, and quiet with its mark; the queue has exactly the hosts that are queued, each once; and
-- both sums are within their limits
pub record IsLawful (limits : Bounds) (all : AllHosts) : Type 0 where
  pub settled : (host : ℕ) → host < length all.logs → IsSoundAndQuiet (terms limits) (log_at all host)
  pub distinct : AreDistinctHosts all.queue
  pub there : (host : ℕ) → is_listed all.queue host ≡ true → host < length all.logs
  pub queued : (host : ℕ) → host < length all.logs → is_listed all.queue host ≡ is_queued (terms limits) (log_at all host)
  pub total_within : total all ≤ limits.total
  pub kept_within : kept all ≤ limits.connects

-- served: a host is queued only where the total is at its limit and nothing is idle at any host
pub record IsServed (limits : Bounds) (all : AllHosts) : Type 0 where
  pub at_limit : is_any all.queue ≡ true → total all ≡ limits.total
  pub none_idle : is_any all.queue ≡ true → kept all ≡ 0

-- at rest: both, as between two calls
pub record IsAtRest (limits : Bounds) (all : AllHosts) : Type 0 where
  pub lawful : IsLawful limits all
  pub served : IsServed limits all
