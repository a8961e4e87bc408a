-- The unused places of a pool.
use Rattle.std.specs.Prelude.{◌==◌, ◌&&◌, nat_lt, length, ℕ, Bool}
use Rattle.cache.specs.Pools.{PoolShown, host_at}
use Rattle.conn_log.specs.Connections.{open_connections}
use Rattle.conn_log.specs.Waiting.{waiting}

-- no connection is open at a site of a pool, and no transfer waits there
abbrev pub is_unused_site : {S : Type 0} → PoolShown S → ℕ → Bool
is_unused_site pool site = nat_lt site (length pool.hosts) && (let log = (host_at pool site).log in (length (open_connections log) == 0) && (length (waiting log) == 0))
