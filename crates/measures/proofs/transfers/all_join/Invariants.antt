use Rattle.cache.specs.PoolCalls.{home_of}
use Rattle.transfer_slab.specs.Slabs.{AreKept}
use Rattle.measures.specs.Told.{all_told}
use Rattle.measures.proofs.transfers.all_join.Given as goal

abbrev pub invariant-loop-transfer : goal.invariant-loop-transfer
invariant-loop-transfer l = AreKept all_told (home_of l.pool) l.slab.slots
