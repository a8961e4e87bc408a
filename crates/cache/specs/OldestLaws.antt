-- What the definition of the oldest of all implies.
use Rattle.std.specs.Prelude.{◌≡◌, ◌≢◌, ℕ, ◌<◌, [], Some, None, IsTrue, ◌⊎◌}
use Rattle.conn_log.specs.declared.stamp.Stamp.{Stamp}
use Rattle.conn_log.specs.Connections.{idle_connections, is_idle, since}
use Rattle.cache.specs.AllHosts.{AllHosts, log_at, oldest_of_all}

-- it is the stamp of an idle connection
pub record IsOfIdle (all : AllHosts) (stamp : Stamp) : Type 0 where
  pub idle : IsTrue (is_idle (log_at all stamp.host) stamp.number)
  pub since : stamp.since ≡ since (log_at all stamp.host) stamp.number

-- at a host of a lower index, or at the same one with a lower number
abbrev pub IsAtLowerPlace : Stamp → Stamp → Type 0
IsAtLowerPlace x y = (x.host < y.host) ⊎ ((x.host ≡ y.host) × (x.number < y.number))

-- since an earlier moment, or since the same one at a lower place
abbrev pub IsIdleBefore : Stamp → Stamp → Type 0
IsIdleBefore x y = (x.since < y.since) ⊎ ((x.since ≡ y.since) × IsAtLowerPlace x y)

-- it is of an idle connection, which is idle before each other one at any host
pub record GoesFirstOfAll (all : AllHosts) (stamp : Stamp) : Type 0 where
  pub of_idle : IsOfIdle all stamp
  pub first : (other : Stamp) → IsOfIdle all other → other ≢ stamp → IsIdleBefore stamp other

-- the oldest of all goes first; there is none only where nothing is idle at any host
abbrev pub OldestOfAllGoesFirst : Type 0
OldestOfAllGoesFirst = (all : AllHosts) (stamp : Stamp) → oldest_of_all all ≡ Some stamp → GoesFirstOfAll all stamp

abbrev pub NoOldestOfAllIfNoneIsIdle : Type 0
NoOldestOfAllIfNoneIsIdle = (all : AllHosts) (host : ℕ) → oldest_of_all all ≡ None → idle_connections (log_at all host) ≡ []
