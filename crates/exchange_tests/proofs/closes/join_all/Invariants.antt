use Rattle.std.specs.Prelude.{◌≡◌}
use Rattle.cache.specs.PoolCalls.{home_of}
use Rattle.transfer_slab.specs.Slabs.{AreKept}
use Rattle.exchange.specs.Worlds.{world_of}
use Rattle.exchange_memory.specs.Memory.{IsUntouched, HappenedTo}
use Rattle.exchange_tests.proofs.closes.join_all.Given as goal

abbrev pub invariant-loop-transfer : goal.invariant-loop-transfer
invariant-loop-transfer g l = AreKept (world_of (λ wire site transfer. IsUntouched wire) HappenedTo (λ moment. moment ≡ 7)) (home_of l.fn.pool) l.slab.slots
