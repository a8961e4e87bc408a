use Rattle.cache.specs.PoolCalls.{home_of}
use Rattle.transfer_slab.specs.Slabs.{AreKept}
use Rattle.exchange.specs.Worlds.{world_of}
use Rattle.socket_tests.proofs.readiness.poll_due.Given as goal

abbrev pub invariant-loop : goal.invariant-loop
invariant-loop g l = AreKept (world_of g.W.Wire.untouched g.W.Wire.happened (g.K.Clock.tells l.fn.clock)) (home_of l.pool) l.slab.slots
