-- What is begun at the dial is told over one poll after another.
use Rattle.std.proofs.Common.{rules}
use Rattle.exchange.proofs.Opened.{begun_by_poll, begun_still}
use Rattle.exchange.proofs.job_runner.poll_to_its_end.Goals as goal

pub returns-then-is_ready-clause-begun : goal.returns-then-is_ready-clause-begun
returns-then-is_ready-clause-begun g c =
    let shown = g.D.Dial.shown in
    begun_by_poll (shown c.args.dial.now).begun (shown c.loop.dial).begun (shown c.poll-polled.new.dial).begun c.args.transfer.now.parts c.loop.transfer.parts
    c.args.transfer.now.state c.loop.transfer.state c.poll-polled.new.self.state c.loop.invariant.same c.loop.invariant.begun c.poll-polled.ensures.polled.dial.begun

pub returns-in-Some-wait-clause-begun : goal.returns-in-Some-wait-clause-begun
returns-in-Some-wait-clause-begun g c =
    let shown = g.D.Dial.shown in
    let polled = begun_by_poll (shown c.args.dial.now).begun (shown c.loop.dial).begun (shown c.poll-polled.new.dial).begun c.args.transfer.now.parts c.loop.transfer.parts
    c.args.transfer.now.state c.loop.transfer.state c.poll-polled.new.self.state c.loop.invariant.same c.loop.invariant.begun c.poll-polled.ensures.polled.dial.begun in
    begun_still (shown c.args.dial.now).begun (shown c.poll-polled.new.dial).begun (shown c.wait.new.dial).begun c.args.transfer.now.parts.want.transfer c.wait.ensures.begun c.wait.ensures.still_begun
    c.args.transfer.now.state c.poll-polled.new.self.state polled

pub loop-preserved : goal.loop-preserved
loop-preserved g c =
    let shown = g.D.Dial.shown in
    let polled = begun_by_poll (shown c.args.dial.now).begun (shown c.loop.dial).begun (shown c.poll-polled.new.dial).begun c.args.transfer.now.parts c.loop.transfer.parts
    c.args.transfer.now.state c.loop.transfer.state c.poll-polled.new.self.state c.loop.invariant.same c.loop.invariant.begun c.poll-polled.ensures.polled.dial.begun in
    record {
      home = search rules;
      owns = search rules;
      ready = search rules;
      same = search rules;
      story = search rules;
      opens = search rules;
      begun = begun_still (shown c.args.dial.now).begun (shown c.poll-polled.new.dial).begun (shown c.wait.new.dial).begun c.args.transfer.now.parts.want.transfer c.wait.ensures.begun c.wait.ensures.still_begun
          c.args.transfer.now.state c.poll-polled.new.self.state polled;
      turns = search rules;
    }
