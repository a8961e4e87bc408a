-- What is closed has its result, one after another.
use Rattle.std.proofs.Common.{rules, subst, ℕ}
use Rattle.exchange.specs.Worlds.{world_of}
use Rattle.run_loop.specs.Going.{rules_of, rules_at, point}
use Rattle.run_loop.specs.Moments.{TakesTimed}
use Rattle.run_loop.proofs.RunningOn.{runs_same, runs_then, runs_close, runs_empty, may_close_it, may_close_more}
use Rattle.run_loop.proofs.run_loop.RunLoop.close_all.Goals as goal

pub loop-done-init : goal.loop-done-init
loop-done-init g c =
    let rules_ = rules_at c.args.end (rules_of g.C.Cache.did (world_of g.W.Wire.untouched g.W.Wire.happened (g.T.Clock.tells c.args.timer.now)) (g.T.Timer.may_stop c.args.timer.now) (g.J.Jobs.job_at c.args._jobs.now) (TakesTimed (g.T.MicroClock.tells_micros c.args.timer.now) g.R.Results.took)) in
    record {
      stays = search rules;
      kept = search rules;
      readings = search rules;
      may = search rules;
      goes = runs_same rules_ (point c.args.cache.now (g.J.Jobs.drawn c.args._jobs.now) c.args.self.now.slab.slots c.args.results.now);
      turns = search rules;
    }

pub loop-done-preserved : goal.loop-done-preserved
loop-done-preserved g c =
    let rules_ = rules_at c.args.end (rules_of g.C.Cache.did (world_of g.W.Wire.untouched g.W.Wire.happened (g.T.Clock.tells c.args.timer.now)) (g.T.Timer.may_stop c.args.timer.now) (g.J.Jobs.job_at c.args._jobs.now) (TakesTimed (g.T.MicroClock.tells_micros c.args.timer.now) g.R.Results.took)) in
    let may_stop = g.T.Timer.may_stop c.args.timer.now in
    let drawn = g.J.Jobs.drawn c.args._jobs.now in
    let slots = c.loop-done.self.slab.slots in
    let left = c.close_last.new.self.slots in
    let done = c.in-Some.done in
    let used = c.in-Some.used in
    let fewer = c.in-Some.ensures.fewer in
    let may = may_close_it may_stop slots left fewer c.args.end c.loop-done.invariant.may used.want.transfer in
    let took : g.R.Results.took c.loop-done.results c.take.new.self used.want.transfer done c.span-span.result = subst (λ (n : ℕ). g.R.Results.took c.loop-done.results c.take.new.self n done c.span-span.result) c.transfer.ensures c.take.ensures in
    record {
      stays = search rules;
      kept = search rules;
      readings = search rules;
      may = may_close_more may_stop slots left fewer c.args.end c.loop-done.invariant.may;
      goes = runs_then rules_ (point c.args.cache.now drawn c.args.self.now.slab.slots c.args.results.now) (point c.loop-done.cache drawn slots c.loop-done.results) (point c.close_last.new.cache drawn left c.take.new.self) c.loop-done.invariant.goes
          (runs_close rules_ (g.C.Cache.home c.loop-done.cache) c.loop-done.cache c.close_last.new.cache g.D.Dial.shown c.loop-done.dial c.close_last.new.dial drawn slots left c.loop-done.results c.take.new.self done used c.span-span.result c.in-Some.ensures.closes may (took, c.span-span.ensures.timed));
      turns = search rules;
    }

pub returns-clause-goes : goal.returns-clause-goes
returns-clause-goes g c =
    let rules_ = rules_at c.args.end (rules_of g.C.Cache.did (world_of g.W.Wire.untouched g.W.Wire.happened (g.T.Clock.tells c.args.timer.now)) (g.T.Timer.may_stop c.args.timer.now) (g.J.Jobs.job_at c.args._jobs.now) (TakesTimed (g.T.MicroClock.tells_micros c.args.timer.now) g.R.Results.took)) in
    let drawn = g.J.Jobs.drawn c.args._jobs.now in
    let slots = c.loop-done.self.slab.slots in
    let left = c.close_last.new.self.slots in
    let same = rw c.in_default.is at c.close_last.ensures.cache in
    let none = rw c.in_default.is at c.close_last.ensures.none_left in
    let empty = rw c.in_default.is at c.close_last.ensures.empty in
    runs_then rules_ (point c.args.cache.now drawn c.args.self.now.slab.slots c.args.results.now) (point c.loop-done.cache drawn slots c.loop-done.results) (point c.close_last.new.cache drawn left c.loop-done.results) c.loop-done.invariant.goes
    (runs_empty rules_ c.loop-done.cache c.close_last.new.cache drawn slots left c.loop-done.results same none empty)
