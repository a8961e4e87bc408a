-- The state of a client.
use Rattle.cache.specs.Pools.{PoolShown}

-- its connections, and the dial that opens them
pub record ClientShown (W D : Type 0) : Type 0 where
  pub pool : PoolShown W
  pub dial : D
