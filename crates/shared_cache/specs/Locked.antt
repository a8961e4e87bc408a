-- What lies under a lock: a host with its seats, and the queue of the hosts that wait for the total.
use Rattle.std.specs.Prelude.{◌≡◌, ◌+◌, length}
use Rattle.budget.specs.Words.{SeatShown, whole, held_by as held_at}
use Rattle.budget.specs.Permits.{held}
use Rattle.budget.specs.Lobby.{Queue}
use Rattle.budget.specs.Marks.{Marked, Listed}
use Rattle.host_state.specs.Calls.{is_queued}
use Rattle.host_state.specs.Counts.{held_by}
use Rattle.bundle.specs.Lease.{HostShown}
use Rattle.shared_cache.specs.Names.{CacheNames, HasTables, terms_of}

-- a host, its seat at the limit words, and its seat at the link
pub record HostUnder (S : Type 0) : Type 0 where
  pub host : HostShown S
  pub seat : SeatShown
  pub mark : Marked

-- whenever the host's lock is free: it has the tables and the terms that the cache's names tell; its seat holds a permit
-- for each open connection, and one for each idle one; its mark is whether it is queued. That its log is legal, quiet
-- and within the limit in force holds of each bundle.
pub record IsHostUnder {S : Type 0} (names : CacheNames) (under : HostUnder S) : Type 0 where
  pub tables : HasTables names under.host.host under.host.tables
  pub terms : under.host.settings ≡ terms_of names.limits
  pub budget : under.seat.table ≡ names.budget
  pub share : under.seat.view.share ≡ 1
  pub permits : held_at under.seat ≡ held_by under.host.log
  pub link : under.mark.table ≡ names.link
  pub marked_host : under.mark.host ≡ under.host.host
  pub marked : under.mark.mark ≡ is_queued under.host.settings under.host.log

-- the lobby, its seat at the link, and the seat that the hosts' seats were split off from
pub record QueueUnder : Type 0 where
  pub lobby : Queue
  pub listed : Listed
  pub gatherer : SeatShown

-- whenever the queue's lock is free: the link lists the hosts that the lobby lists, in their order; the seat has the
-- share that the hosts don't have, and holds nothing
pub record IsQueueUnder (names : CacheNames) (under : QueueUnder) : Type 0 where
  pub order : under.listed.hosts ≡ under.lobby.order
  pub places : under.lobby.hosts ≡ length names.hosts
  pub link : under.listed.table ≡ names.link
  pub budget : under.gatherer.table ≡ names.budget
  pub share : under.gatherer.view.share + length names.hosts ≡ whole
  pub permits : held_at under.gatherer ≡ held 0 0
