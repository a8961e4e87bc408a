use Rattle.cache.specs.PoolCalls.{home_of}
use Rattle.transfer_slab.specs.Slabs.{AreKept}
use Rattle.exchange.specs.Worlds.{world_of}
use Rattle.socket_tests.proofs.readiness.rounds.Given as goal

abbrev pub invariant-loop-turns : goal.invariant-loop-turns
invariant-loop-turns g l = AreKept (world_of g.W.Wire.untouched g.W.Wire.happened (g.K.Clock.tells l.fn.clock)) (home_of l.pool) l.slab.slots
