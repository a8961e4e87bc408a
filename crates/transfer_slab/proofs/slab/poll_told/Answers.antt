-- What the poll promises of the dial as it was told of the place holds of it as it was before.
use Rattle.std.proofs.Common.{◌∙◌}
use Rattle.exchange.proofs.Begun.{begun_after}
use Rattle.transfer_slab.proofs.slab.poll_told.Goals as goal

pub returns-clause-polled : goal.returns-clause-polled
returns-clause-polled g c =
    let told = c.tell_place.ensures in
    let polled = c.poll.ensures.polled in
    let shown = g.D.Dial.shown in
    record {
      same = polled.same;
      story = polled.story;
      steps = polled.steps;
      over = polled.over;
      dial = record {
        dialled = rw (← told.counted) polled.dial.dialled;
        opens = rw (← told.opens) polled.dial.opens;
        begun = begun_after (shown c.args.dial.now).begun (shown c.tell_place.new.dial).begun (shown c.poll.new.dial).begun c.args.transfer.now.parts.want.transfer told.begun told.kept c.args.transfer.now.state c.poll.new.self.state polled.dial.begun;
        turns = polled.dial.turns ∙ told.turns;
      };
    }
