-- What it begins at the dial it begins over all steps for itself alone.
use Rattle.std.proofs.Common.{rules, ap, ◌∙◌, sym, subst, true, ◌≡◌, ◌<◌}
use Rattle.conn_log.specs.declared.entry.Want.{Want}
use Rattle.exchange.specs.Worlds.{world_of}
use Rattle.exchange.specs.Stepping.{PollsFew}
use Rattle.exchange.specs.Transfers.{TransferShown}
use Rattle.exchange.specs.Balance.{HasAll}
use Rattle.exchange.proofs.Balanced.{has_all}
use Rattle.exchange.proofs.Begun.{begun_on}
use Rattle.exchange.proofs.Steps.{takes_more, polls_few, polls_all}
use Rattle.exchange.proofs.transfer.Transfer.poll.Goals as goal

pub returns-in-Some-clause-polled : goal.returns-in-Some-clause-polled
returns-in-Some-clause-polled g c =
    let shown = g.D.Dial.shown in
    let same : c.loop.self.parts.want.transfer ≡ c.args.self.now.parts.want.transfer = ap (λ (w : Want). w.transfer) c.loop.invariant.same.want in
    let few : c.loop.counter < 64 = search rules in
    record {
      same = search rules;
      story = search rules;
      steps = polls_few g.C.Cache.did (world_of g.W.Wire.untouched g.W.Wire.happened (g.K.Clock.tells c.args.clock.now)) c.args.cache.now c.loop.cache c.step.new.cache c.loop.counter
          c.loop.self.has_spent c.step.new.self.has_spent c.step.new.self.has_yielded c.in-Some.polled c.args.self.now.state c.loop.self.state c.step.new.self.state g.W.Wire.source_name (shown c.step.new.dial).source_name c.loop.cx c.step.new.cx c.step.new.self.waker
          (c.step.ensures.yielded ∙ c.loop.invariant.yielded) few c.loop.invariant.steps c.in-Some.ensures.steps c.in-Some.ensures.spent c.in-Some.ensures.ends;
      over = search rules;
      dial = record {
        dialled = search rules;
        opens = search rules;
        begun = begun_on (shown c.args.dial.now).begun (shown c.loop.dial).begun (shown c.step.new.dial).begun c.args.self.now.parts.want.transfer
            c.args.self.now.state c.loop.self.state c.step.new.self.state c.loop.self.parts.want.transfer same c.loop.invariant.begun c.step.ensures.dials.begun;
        turns = search rules;
      };
    }

pub returns-clause-polled : goal.returns-clause-polled
returns-clause-polled g c =
    let world = world_of g.W.Wire.untouched g.W.Wire.happened (g.K.Clock.tells c.args.clock.now) in
    let all : c.loop.counter ≡ 64 = search rules in
    let steps = polls_all g.C.Cache.did world c.args.cache.now c.loop.cache c.loop.counter c.loop.self.has_spent c.args.self.now.state c.loop.self.state all c.loop.invariant.steps in
    record {
      same = search rules;
      story = search rules;
      steps = subst (λ (t : TransferShown _). PollsFew g.C.Cache.did world c.args.cache.now c.loop.cache true t.has_spent c.args.self.now.state t.state) (sym c.self-2.view_is) steps;
      over = search rules;
      dial = record {
        dialled = search rules;
        opens = search rules;
        begun = search rules;
        turns = search rules;
      };
    }

pub loop-preserved : goal.loop-preserved
loop-preserved g c =
    let same : c.loop.self.parts.want.transfer ≡ c.args.self.now.parts.want.transfer = ap (λ (w : Want). w.transfer) c.loop.invariant.same.want in
    let begun = begun_on (g.D.Dial.shown c.args.dial.now).begun (g.D.Dial.shown c.loop.dial).begun (g.D.Dial.shown c.step.new.dial).begun c.args.self.now.parts.want.transfer
    c.args.self.now.state c.loop.self.state c.step.new.self.state c.loop.self.parts.want.transfer same c.loop.invariant.begun c.step.ensures.dials.begun in
    let steps = takes_more g.C.Cache.did (world_of g.W.Wire.untouched g.W.Wire.happened (g.K.Clock.tells c.args.clock.now)) c.args.cache.now c.loop.cache c.step.new.cache c.loop.counter c.loop.self.has_spent c.step.new.self.has_spent c.args.self.now.state c.loop.self.state c.step.new.self.state c.loop.invariant.steps (rw c.in_default.is at c.step.ensures.steps) (rw c.in_default.is at c.step.ensures.spent) in
    record {
      stays = search rules;
      owns = search rules;
      ready = search rules;
      same = search rules;
      story = search rules;
      over = search rules;
      counted = search rules;
      opens = search rules;
      begun = begun;
      turns = search rules;
      begins = search rules;
      going = search rules;
      yielded = search rules;
      context = search rules;
      steps = steps;
    }

pub returns-in-Some-clause-out : goal.returns-in-Some-clause-out
returns-in-Some-clause-out g c = has_all (world_of g.W.Wire.untouched g.W.Wire.happened (g.K.Clock.tells c.args.clock.now)) c.step.new.self.parts c.step.new.self.state _ c.step.ensures.owns

pub returns-clause-out : goal.returns-clause-out
returns-clause-out g c =
    let world = world_of g.W.Wire.untouched g.W.Wire.happened (g.K.Clock.tells c.args.clock.now) in
    subst (λ (t : TransferShown _). HasAll world t.parts t.state) (sym c.self-2.view_is) (has_all world c.loop.self.parts c.loop.self.state _ c.loop.invariant.owns)
