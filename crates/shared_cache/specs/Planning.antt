-- A plan of a shared cache: new hosts in their order, and their queue.
use Rattle.std.specs.Prelude.{◌≡◌, ◌≤◌, ℕ, suc, false, List, [], ◌∷◌, length, map}
use Rattle.atomic_table.specs.Seated.{TableId}
use Rattle.budget.specs.Words.{Shared, empty_seat}
use Rattle.budget.specs.Marks.{mark_at}
use Rattle.bundle.specs.Lease.{IsNewHost}
use Rattle.shared_cache.specs.Names.{CacheNames}
use Rattle.shared_cache.specs.Locked.{HostUnder, QueueUnder, IsQueueUnder}

module _ {S : Type 0} where
  -- the names of the cache that it is for
  abbrev pub names_of : Shared → TableId → List (HostUnder S) → CacheNames
  names_of budget link hosts = record {
    limits = budget.limits;
    budget = budget.table;
    link = link;
    hosts = map (λ (under : HostUnder S). under.host.tables) hosts;
  }

  -- a new host, with that index: its seats hold nothing, and it is not marked
  pub record IsNewAt (budget : Shared) (link : TableId) (place : ℕ) (under : HostUnder S) : Type 0 where
    pub host : IsNewHost budget.limits.host place 1 under.host
    pub seat_table : under.seat.table ≡ budget.table
    pub seat : under.seat.view ≡ empty_seat 1
    pub mark : under.mark ≡ mark_at link place false

  -- new hosts, with the indices from that one on
  abbrev pub AreNewFrom : Shared → TableId → ℕ → List (HostUnder S) → Type 0
  AreNewFrom budget link place [] = Unit {0}
  AreNewFrom budget link place (under ∷ others) =
      IsNewAt budget link place under × AreNewFrom budget link (suc place) others

  -- new hosts with the indices from 0 on, no more than there may be, and the queue for them
  pub record IsPlanned (budget : Shared) (link : TableId) (hosts : List (HostUnder S)) (queue : QueueUnder) : Type 0 where
    pub hosts_new : AreNewFrom budget link 0 hosts
    pub queue_under : IsQueueUnder (names_of budget link hosts) queue
    pub few : length hosts ≤ 1024
