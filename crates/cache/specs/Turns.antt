-- What turns, and the room that is made for them, leave of all hosts.
use Rattle.std.specs.Prelude.{◌≡◌, ℕ, ◌+◌, ◌<◌, false, length, None}
use Rattle.bundle.specs.Lease.{is_unclaimed, ticket_want, KeepsStreams}
use Rattle.cache.specs.AllHosts.{AllHosts, total, kept, total_waiting}
use Rattle.cache.specs.Pools.{PoolShown, host_at}

-- one idle connection fewer is open, and who waits stays
pub record IsOneFewer (old new : AllHosts) : Type 0 where
  pub number_open : total old ≡ total new + 1
  pub number_kept : kept old ≡ kept new + 1
  pub same_wait : total_waiting new ≡ total_waiting old

-- whoever has no ticket, and nothing to claim, has nothing to claim then
abbrev pub KeepsSpent : {S : Type 0} → PoolShown S → PoolShown S → Type 0
KeepsSpent old new = (host : ℕ) → host < length old.hosts → (t : ℕ) → ticket_want (host_at old host) t ≡ None → is_unclaimed (host_at old host) t ≡ false → is_unclaimed (host_at new host) t ≡ false

-- at each host every connection that is still open keeps its stream
abbrev pub KeepStreams : {S : Type 0} → PoolShown S → PoolShown S → Type 0
KeepStreams old new = (host : ℕ) → host < length old.hosts → KeepsStreams (host_at old host) (host_at new host)
