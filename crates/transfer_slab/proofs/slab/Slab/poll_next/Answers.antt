-- One place after another is polled, up to one whose transfer has ended.
use Rattle.std.proofs.Common.{rules}
use Rattle.exchange.specs.Worlds.{world_of}
use Rattle.transfer_slab.proofs.Rounds.{polls_none, polls_more, polls_last}
use Rattle.transfer_slab.proofs.slab.Slab.poll_next.Goals as goal

pub loop-init : goal.loop-init
loop-init g c =
    let world = world_of g.W.Wire.untouched g.W.Wire.happened (g.K.Clock.tells c.args.clock.now) in
    record {
      stays = search rules;
      kept = search rules;
      same = search rules;
      polls = polls_none g.C.Cache.did world g.D.Dial.shown c.args.cache.now c.args.dial.now c.args.self.now.slots;
      turns = search rules;
      room = search rules;
    }

pub loop-preserved : goal.loop-preserved
loop-preserved g c =
    let world = world_of g.W.Wire.untouched g.W.Wire.happened (g.K.Clock.tells c.args.clock.now) in
    let tried = rw c.in_default-poll_at.is at c.poll_at.ensures.polls in
    record {
      stays = search rules;
      kept = search rules;
      same = search rules;
      polls = polls_more g.C.Cache.did world g.D.Dial.shown c.args.cache.now c.loop.cache c.poll_at.new.cache c.args.dial.now c.loop.dial c.poll_at.new.dial
          c.args.self.now.slots c.self-in-loop.inside.slots.items c.poll_at.new.self.slots c.in-Some.place (rw (← c.self-in-loop.view_is) at c.loop.invariant.polls) tried;
      turns = search rules;
      room = search rules;
    }

pub returns-in-Some-poll_at-clause-polls : goal.returns-in-Some-poll_at-clause-polls
returns-in-Some-poll_at-clause-polls g c =
    let world = world_of g.W.Wire.untouched g.W.Wire.happened (g.K.Clock.tells c.args.clock.now) in
    polls_last g.C.Cache.did world g.D.Dial.shown c.args.cache.now c.loop.cache c.poll_at.new.cache c.args.dial.now c.loop.dial c.poll_at.new.dial
    c.args.self.now.slots c.self-in-loop.inside.slots.items c.poll_at.new.self.slots c.in-Some.place (rw (← c.self-in-loop.view_is) at c.loop.invariant.polls) c.in-Some-poll_at.ended c.in-Some-poll_at.ensures.polls
