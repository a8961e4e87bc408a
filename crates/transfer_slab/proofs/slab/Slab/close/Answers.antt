-- Each transfer that is closed joins those that were.
use Rattle.std.proofs.Common.{rules}
use Rattle.exchange.specs.Worlds.{world_of}
use Rattle.transfer_slab.specs.Slabs.{transfers_in}
use Rattle.transfer_slab.proofs.GivenUp.{gives_up_none, gives_up_more}
use Rattle.transfer_slab.proofs.Slots.{closes_none, closes_more}
use Rattle.transfer_slab.proofs.slab.Slab.close.Goals as goal

pub loop-closed-init : goal.loop-closed-init
loop-closed-init g c = record {
  stays = search rules;
  kept = search rules;
  closes = closes_none g.C.Cache.did (world_of g.W.Wire.untouched g.W.Wire.happened (g.K.Clock.tells c.args.clock.now)) c.args.cache.now (transfers_in c.args.self.slots);
  begun = gives_up_none (g.D.Dial.shown c.args.dial.now) (transfers_in c.args.self.slots);
}

pub loop-closed-preserved : goal.loop-closed-preserved
loop-closed-preserved g c =
    let one = c.in-Some.ensures.closes in
    let closes = closes_more g.C.Cache.did (world_of g.W.Wire.untouched g.W.Wire.happened (g.K.Clock.tells c.args.clock.now)) c.args.cache.now c.loop-closed.cache c.close_last.new.cache (transfers_in c.args.self.slots)
    (transfers_in c.loop-closed.slab.slots) (transfers_in c.close_last.new.self.slots) one.transfer c.loop-closed.invariant.closes one.taken one.moment one.told one.cancels in
    record {
      stays = search rules;
      kept = search rules;
      closes = closes;
      begun = gives_up_more (g.D.Dial.shown c.args.dial.now) (g.D.Dial.shown c.loop-closed.dial) (g.D.Dial.shown c.close_last.new.dial) (transfers_in c.args.self.slots)
          (transfers_in c.loop-closed.slab.slots) (transfers_in c.close_last.new.self.slots) one.transfer c.loop-closed.invariant.begun one.taken one.begun;
    }
