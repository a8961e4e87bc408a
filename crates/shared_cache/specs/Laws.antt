-- Which hosts the Lobby lists, under the lock of a host and the Lobby's.
use Rattle.std.specs.Prelude.{◌≡◌, ◌<◌, ◌≤◌, List, length, Bool, IsTrue}
use Rattle.std.specs.List.{Contains}
use Rattle.conn_log.specs.declared.entry.Entry.{Entry}
use Rattle.conn_log.specs.Connections.{open_connections}
use Rattle.conn_log.specs.Waiting.{waiting}
use Rattle.conn_log.specs.Legal.{LimitAndFirst, IsAnyone, limit_in_force}
use Rattle.budget.specs.Lobby.{is_listed}
use Rattle.budget.specs.Marks.{IsLink, first_of, hosts_of}
use Rattle.budget.specs.declared.link.Listing.{Listing}
use Rattle.budget.specs.declared.link.Listing.TheVariants.{Mark}
use Rattle.shared_cache.specs.Names.{CacheNames}
use Rattle.shared_cache.specs.Locked.{HostUnder, IsHostUnder, QueueUnder, IsQueueUnder}

-- what the seats of one link show: the first of them is the one under the Lobby's lock, and one is the host's
pub record AreSeatsOfLink {S : Type 0} (shown : List Listing) (host : HostUnder S) (queue : QueueUnder) : Type 0 where
  pub rule : IsLink shown
  pub lobby : hosts_of (first_of shown) ≡ queue.listed.hosts
  pub mark : Contains shown (Mark host.mark.host host.mark.mark)

-- a host is listed exactly if a transfer waits there though the host has room
pub record IsListedForRoom (listed : Bool) (settings : LimitAndFirst) (log : List Entry) : Type 0 where
  pub waits : IsTrue listed → IsAnyone (waiting log)
  pub has_room : IsTrue listed → length (open_connections log) < limit_in_force settings log
  pub must_be : IsAnyone (waiting log) → length (open_connections log) < limit_in_force settings log → IsTrue listed

-- under both locks of a cache, of a host that is within its limit in force, as every bundle is
abbrev pub ListsWhoWaitsBesideRoom : Type 0 → Type 0
ListsWhoWaitsBesideRoom S =
    (names : CacheNames) (shown : List Listing) (host : HostUnder S) (queue : QueueUnder)
    → IsHostUnder names host → IsQueueUnder names queue → AreSeatsOfLink shown host queue
    → length (open_connections host.host.log) ≤ limit_in_force host.host.settings host.host.log
    → IsListedForRoom (is_listed queue.lobby.order host.host.host) host.host.settings host.host.log
