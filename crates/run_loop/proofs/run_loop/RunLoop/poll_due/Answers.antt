-- What has ended has its result, one after another.
use Rattle.std.proofs.Common.{rules, subst, sym, ℕ, List, Option}
use Rattle.exchange.specs.Transfers.{TransferShown}
use Rattle.exchange.specs.Worlds.{world_of}
use Rattle.run_loop.specs.Going.{rules_of, point, RunsOn}
use Rattle.run_loop.specs.Moments.{TakesTimed}
use Rattle.run_loop.proofs.RunningOn.{runs_same, runs_then, runs_round, runs_round_ends}
use Rattle.run_loop.proofs.run_loop.RunLoop.poll_due.Goals as goal

pub loop-ended-init : goal.loop-ended-init
loop-ended-init g c =
    let rules_ = rules_of g.C.Cache.did (world_of g.W.Wire.untouched g.W.Wire.happened (g.T.Clock.tells c.args.timer.now)) (g.T.Timer.may_stop c.args.timer.now) (g.J.Jobs.job_at c.args._jobs.now) (TakesTimed (g.T.MicroClock.tells_micros c.args.timer.now) g.R.Results.took) in
    record {
      stays = search rules;
      kept = search rules;
      goes = runs_same rules_ (point c.args.cache.now (g.J.Jobs.drawn c.args._jobs.now) c.args.self.now.slab.slots c.args.results.now);
      fewer = search rules;
      turns = search rules;
    }

pub loop-ended-preserved : goal.loop-ended-preserved
loop-ended-preserved g c =
    let rules_ = rules_of g.C.Cache.did (world_of g.W.Wire.untouched g.W.Wire.happened (g.T.Clock.tells c.args.timer.now)) (g.T.Timer.may_stop c.args.timer.now) (g.J.Jobs.job_at c.args._jobs.now) (TakesTimed (g.T.MicroClock.tells_micros c.args.timer.now) g.R.Results.took) in
    let drawn = g.J.Jobs.drawn c.args._jobs.now in
    let slots = c.loop-ended.slab.slots in
    let left = c.poll_next.new.self.slots in
    let took = subst (λ (n : ℕ). g.R.Results.took c.loop-ended.results c.take.new.self n c.in-Some.ended.done c.span-span.result) c.transfer.ensures c.take.ensures in
    record {
      stays = search rules;
      kept = search rules;
      goes = runs_then rules_ (point c.args.cache.now drawn c.args.self.now.slab.slots c.args.results.now) (point c.loop-ended.cache drawn slots c.loop-ended.results) (point c.poll_next.new.cache drawn left c.take.new.self) c.loop-ended.invariant.goes
          (runs_round_ends rules_ g.D.Dial.shown c.loop-ended.cache c.poll_next.new.cache c.loop-ended.dial c.poll_next.new.dial drawn slots left c.loop-ended.results c.in-Some.ended c.span-span.result c.take.new.self c.in-Some.ensures.polls (took, c.span-span.ensures.timed));
      fewer = search rules;
      turns = search rules;
    }

pub returns-clause-goes : goal.returns-clause-goes
returns-clause-goes g c =
    let rules_ = rules_of g.C.Cache.did (world_of g.W.Wire.untouched g.W.Wire.happened (g.T.Clock.tells c.args.timer.now)) (g.T.Timer.may_stop c.args.timer.now) (g.J.Jobs.job_at c.args._jobs.now) (TakesTimed (g.T.MicroClock.tells_micros c.args.timer.now) g.R.Results.took) in
    let drawn = g.J.Jobs.drawn c.args._jobs.now in
    let slots = c.loop-ended.slab.slots in
    let left = c.poll_next.new.self.slots in
    let first = point c.args.cache.now drawn c.args.self.now.slab.slots c.args.results.now in
    subst (λ (l : List (Option (TransferShown g.row.W.Denot))). RunsOn rules_ first (point c.poll_next.new.cache drawn l c.loop-ended.results)) (sym c.take_granted-granted.ensures.slots)
    (runs_then rules_ first (point c.loop-ended.cache drawn slots c.loop-ended.results) (point c.poll_next.new.cache drawn left c.loop-ended.results) c.loop-ended.invariant.goes
    (runs_round rules_ g.D.Dial.shown c.loop-ended.cache c.poll_next.new.cache c.loop-ended.dial c.poll_next.new.dial drawn slots left c.loop-ended.results (rw c.in_default.is at c.poll_next.ensures.polls)))
