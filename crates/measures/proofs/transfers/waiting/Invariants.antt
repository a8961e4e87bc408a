use Rattle.cache.specs.PoolCalls.{home_of}
use Rattle.transfer_slab.specs.Slabs.{AreKept}
use Rattle.measures.specs.Told.{all_told}
use Rattle.measures.proofs.transfers.waiting.Given as goal

abbrev pub invariant-loop : goal.invariant-loop
invariant-loop g l = AreKept all_told (home_of l.pool) l.slab.slots
