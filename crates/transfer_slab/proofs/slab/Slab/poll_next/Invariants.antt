use Rattle.std.proofs.Common.{◌≡◌, None, sum_by}
use Rattle.exchange.specs.Dialling.{failed_turns}
use Rattle.exchange.specs.Worlds.{world_of}
use Rattle.transfer_slab.specs.Slabs.{AreKept, one_if_some}
use Rattle.transfer_slab.specs.Rounds.{PollsInTurn}
use Rattle.transfer_slab.proofs.slab.Slab.poll_next.Given as goal

abbrev pub invariant-loop : goal.invariant-loop
invariant-loop g l = record {
  stays : g.C.Cache.home l.cache ≡ g.C.Cache.home l.fn.cache;
  kept : AreKept (world_of g.W.Wire.untouched g.W.Wire.happened (g.K.Clock.tells l.fn.clock)) (g.C.Cache.home l.cache) l.self.slots;
  same : sum_by one_if_some l.self.slots ≡ sum_by one_if_some l.fn.self.slots;
  polls : PollsInTurn g.C.Cache.did (world_of g.W.Wire.untouched g.W.Wire.happened (g.K.Clock.tells l.fn.clock)) g.D.Dial.shown l.fn.cache l.cache l.fn.dial l.dial l.fn.self.slots l.self.slots None;
  turns : failed_turns g.D.Dial.shown l.dial ≡ failed_turns g.D.Dial.shown l.fn.dial;
  room : l.self.room ≡ l.fn.self.room;
}
