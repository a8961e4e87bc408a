use Rattle.std.proofs.Common.{◌≡◌, sum_by}
use Rattle.exchange.specs.Worlds.{world_of}
use Rattle.transfer_slab.specs.Slabs.{AreKept, transfers_in, one_if_some}
use Rattle.transfer_slab.proofs.GivenUp.{GivesUpRest}
use Rattle.transfer_slab.proofs.Slots.{ClosesRest}
use Rattle.transfer_slab.proofs.slab.Slab.close.Given as goal

abbrev pub decreases-loop-closed : goal.decreases-loop-closed
decreases-loop-closed g l = sum_by one_if_some l.slab.slots

abbrev pub invariant-loop-closed : goal.invariant-loop-closed
invariant-loop-closed g l = record {
  stays : g.C.Cache.home l.cache ≡ g.C.Cache.home l.fn.cache;
  kept : AreKept (world_of g.W.Wire.untouched g.W.Wire.happened (g.K.Clock.tells l.fn.clock)) (g.C.Cache.home l.cache) l.slab.slots;
  closes : ClosesRest g.C.Cache.did (world_of g.W.Wire.untouched g.W.Wire.happened (g.K.Clock.tells l.fn.clock)) l.fn.cache l.cache (transfers_in l.fn.self.slots) (transfers_in l.slab.slots);
  begun : GivesUpRest (g.D.Dial.shown l.fn.dial) (g.D.Dial.shown l.dial) (transfers_in l.fn.self.slots) (transfers_in l.slab.slots);
}
