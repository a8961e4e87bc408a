use Rattle.std.proofs.Common.{◌≡◌, length}
use Rattle.exchange.specs.Worlds.{world_of}
use Rattle.transfer_slab.specs.Slabs.{AreKept, transfers_in, one_if_some}
use Rattle.std.specs.Prelude.{sum_by}
use Rattle.transfer_slab.proofs.slab.Slab.close_last.Given as goal

abbrev pub decreases-loop-slot : goal.decreases-loop-slot
decreases-loop-slot g l = length l.self-inside.slots.items

abbrev pub invariant-loop-slot : goal.invariant-loop-slot
invariant-loop-slot g l = record {
  kept : AreKept (world_of g.W.Wire.untouched g.W.Wire.happened (g.K.Clock.tells l.fn.clock)) (g.C.Cache.home l.cache) l.self-inside.slots.items;
  count : sum_by one_if_some l.self-inside.slots.items ≡ sum_by one_if_some l.fn.self.slots;
  left : transfers_in l.self-inside.slots.items ≡ transfers_in l.fn.self.slots;
  cache : l.cache ≡ l.fn.cache;
  dial : l.dial ≡ l.fn.dial;
  room : l.self-inside.room ≡ l.fn.self.room;
}
