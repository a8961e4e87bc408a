use Rattle.std.specs.Prelude.{◌≡◌, ⊤}
use Rattle.cache.specs.PoolCalls.{home_of}
use Rattle.exchange.specs.Worlds.{world_of}
use Rattle.transfer_slab.specs.Slabs.{AreKept}
use Rattle.exchange_tests.proofs.thousand.a_thousand_go_on_at_once.Given as goal

abbrev pub invariant-loop-transfer : goal.invariant-loop-transfer
invariant-loop-transfer g l = AreKept (world_of (λ wire site transfer. ⊤) (λ old new happening. ⊤) (λ moment. moment ≡ l.clock.now)) (home_of l.pool) l.slab.slots

abbrev pub invariant-loop : goal.invariant-loop
invariant-loop g l = AreKept (world_of (λ wire site transfer. ⊤) (λ old new happening. ⊤) (λ moment. moment ≡ l.clock.now)) (home_of l.pool) l.slab.slots
