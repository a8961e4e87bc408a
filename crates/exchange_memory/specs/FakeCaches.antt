-- What a fake cache knows of its pool, and what it did.
use Rattle.std.specs.Prelude.{◌≡◌, ◌⊎◌, ℕ, ◌+◌, ◌-◌, ◌<◌, true, false, length, min, Option, Some, None}
use Rattle.std.specs.declared.snapshot.Snapshot.{Snapshot}
use Rattle.budget.specs.declared.refusal.Refusal.{Refusal}
use Rattle.bundle.specs.Lease.{Leasing, Ticketed, is_unclaimed, is_valid_ticket}
use Rattle.cache_trait.specs.CacheCalls.{CacheCall}
use Rattle.cache_trait.specs.CacheCalls.CacheCall.{leases, begins_wait, refuses, grants, keeps_waiting, gives_back, abandons, withdraws, finds_strange_lease, finds_strange_ticket}
use Rattle.cache.specs.Pools.{PoolShown, StaysPool, StaysHosts, host_at}
use Rattle.cache.specs.PoolCalls.{DidToPool}
use Rattle.exchange_memory.specs.declared.calls.Calls.{Calls}
use Rattle.exchange_memory.specs.declared.returned.Returned.{Returned}
use Rattle.exchange_memory.specs.Halts.{HaltsWith}

-- a fake cache: its pool, at which acquire it refuses, how many leases and tickets of transfers are out, what was given back last, and the wire of
-- that, as it then was
pub record FakeShown (S : Type 0) : Type 0 where
  pub pool : PoolShown S
  pub acquires : Calls Refusal
  pub leases : ℕ
  pub tickets : ℕ
  pub last : Option Returned
  pub wire : Option S

-- the wire of the lease that was given back last, if one was
abbrev pub wire_of : {S : Type 0} → Option (Snapshot (Leasing S)) → Option S
wire_of None = None
wire_of (Some lease) = lease.value.stream

-- one more, up to the greatest number that a count can say
abbrev pub one_more : ℕ → ℕ
one_more count = min (count + 1) 18446744073709551615

-- how many leases are out once this was done too
abbrev pub leases_after : {S : Type 0} → CacheCall S → ℕ → ℕ
leases_after (leases lease now) count = one_more count
leases_after (grants lease) count = one_more count
leases_after (gives_back lease facts now) count = count - 1
leases_after (abandons lease now) count = count - 1
leases_after (finds_strange_lease lease) count = count - 1
leases_after _ count = count

-- and how many tickets
abbrev pub tickets_after : {S : Type 0} → CacheCall S → ℕ → ℕ
tickets_after (begins_wait ticket now) count = one_more count
tickets_after (grants lease) count = count - 1
tickets_after (withdraws ticket now) count = count - 1
tickets_after (finds_strange_ticket ticket) count = count - 1
tickets_after _ count = count

-- and what was given back last
abbrev pub last_after : {S : Type 0} → CacheCall S → Option Returned → Option Returned
last_after (gives_back lease facts now) last = Some (record { site = lease.site; facts = facts })
last_after _ last = last

-- and its wire
abbrev pub wire_after : {S : Type 0} → CacheCall S → Option S → Option S
wire_after (gives_back lease facts now) wire = lease.stream
wire_after _ wire = wire

-- that is noted
pub record IsNoted {S : Type 0} (call : CacheCall S) (old new : FakeShown S) : Type 0 where
  pub leases_are : new.leases ≡ leases_after call old.leases
  pub tickets_are : new.tickets ≡ tickets_after call old.tickets
  pub last_is : new.last ≡ last_after call old.last
  pub wire_is : new.wire ≡ wire_after call old.wire

-- the ticket is no stranger, and its transfer has no grant yet; meanwhile another transfer may give its connection back
pub record StillWaits {S : Type 0} (old new : PoolShown S) (ticket : Ticketed) : Type 0 where
  pub there : ticket.site < length old.hosts
  pub valid : is_valid_ticket (host_at old ticket.site) ticket.wait.want ≡ true
  pub none : is_unclaimed (host_at old ticket.site) ticket.wait.want.transfer ≡ false
  pub hosts : StaysHosts old new
  pub stays : StaysPool old new

-- this acquire is the one that it was told to refuse so; its pool was not asked
pub record WasToldToRefuse {S : Type 0} (old new : FakeShown S) (refusal : Refusal) : Type 0 where
  pub told : HaltsWith new.acquires refusal
  pub same : new.pool ≡ old.pool

-- what was done at its pool, or that it refused in the place of its pool
abbrev pub DidAtPool : {S : Type 0} → FakeShown S → FakeShown S → CacheCall S → Type 0
DidAtPool old new (keeps_waiting ticket) = StillWaits old.pool new.pool ticket
DidAtPool old new (refuses site want now refusal) = DidToPool old.pool new.pool (refuses site want now refusal) ⊎ WasToldToRefuse old new refusal
DidAtPool old new call = DidToPool old.pool new.pool call

-- from the one time to the other this was done, and noted
abbrev pub DidToFake : {S : Type 0} → FakeShown S → FakeShown S → CacheCall S → Type 0
DidToFake old new call = DidAtPool old new call × IsNoted call old new
