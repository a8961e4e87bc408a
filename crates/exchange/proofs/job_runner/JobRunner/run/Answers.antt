-- A job is carried out by a transfer of its own from its beginning to its end.
use Rattle.std.proofs.Common.{rules, ◌≡◌, ap}
use Rattle.conn_log.specs.declared.entry.Want.{Want}
use Rattle.exchange.specs.Worlds.{world_of}
use Rattle.exchange.specs.Since.{since}
use Rattle.exchange.specs.Exchanging.{Stands}
use Rattle.exchange.specs.Carrying.{IsForJob}
use Rattle.exchange.proofs.Opened.{ends_dials}
use Rattle.exchange.proofs.job_runner.JobRunner.run.Goals as goal

pub returns-clause-runs : goal.returns-clause-runs
returns-clause-runs g c =
    let world = world_of g.W.Wire.untouched g.W.Wire.happened (g.K.Clock.tells c.args.clock.now) in
    let polled = c.poll_to_its_end-stop in
    let begun : Stands g.C.Cache.did world c.new-transfer.result.parts (since c.args.cache.now) c.args.cache.now c.new-transfer.result.state = search rules in
    let its : IsForJob c.args.job.now polled.new.transfer.parts = search rules in
    record {
      carried = record {
        parts = polled.new.transfer.parts;
        its = its;
        last = polled.new.cache;
        state = polled.new.transfer.state;
        stands = polled.ensures.story (since c.args.cache.now) begun;
        moment = c.now-now.result;
        told = c.now-now.ensures;
        closed = search rules;
        ends = search rules;
      };
      retried = search rules;
      stops = search rules;
    }

pub returns-clause-dials : goal.returns-clause-dials
returns-clause-dials g c =
    let polled = c.poll_to_its_end-stop in
    let shown = g.D.Dial.shown in
    let job : c.new-transfer.result.parts.want.transfer ≡ c.args.job.now.want.transfer = search rules in
    let same : polled.new.transfer.parts.want.transfer ≡ c.new-transfer.result.parts.want.transfer = ap (λ (w : Want). w.transfer) polled.ensures.same_job.want in
    ends_dials (shown c.args.dial.now) (shown polled.new.dial) (shown c.close-done.new.dial) c.new-transfer.result.parts polled.new.transfer.parts c.args.job.now.want.transfer c.new-transfer.result.parts.want.transfer polled.new.transfer.parts.want.transfer
    c.new-transfer.result.state polled.new.transfer.state job same c.new-transfer.ensures.asking polled.ensures.opens polled.ensures.begun c.close-done.ensures.begun
