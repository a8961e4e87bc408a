-- One job after another is drawn and begun.
use Rattle.std.proofs.Common.{rules, subst, ◌∙◌, ℕ, Some}
use Rattle.exchange.specs.declared.job.Job.{Job}
use Rattle.exchange.specs.Worlds.{world_of}
use Rattle.run_loop.specs.Drawing.{DrawsNumber}
use Rattle.run_loop.specs.Going.{rules_of, point, RunsOnWith}
use Rattle.run_loop.specs.Moments.{TakesTimed}
use Rattle.run_loop.proofs.RunningOn.{runs_same, runs_then, runs_with}
use Rattle.run_loop.proofs.run_loop.RunLoop.fill.Goals as goal

pub loop-init : goal.loop-init
loop-init g c =
    let rules_ = rules_of g.C.Cache.did (world_of g.W.Wire.untouched g.W.Wire.happened (g.T.Clock.tells c.args.timer.now)) (g.T.Timer.may_stop c.args.timer.now) (g.J.Jobs.job_at c.args.jobs.now) (TakesTimed (g.T.MicroClock.tells_micros c.args.timer.now) g.R.Results.took) in
    record {
      kept = search rules;
      readings = search rules;
      goes = runs_same rules_ (point c.args.cache.now (g.J.Jobs.drawn c.args.jobs.now) c.args.self.now.slab.slots c.args.results.now);
      jobs = search rules;
      fixed = search rules;
    }

pub loop-preserved : goal.loop-preserved
loop-preserved g c =
    let did = g.C.Cache.did in
    let took = TakesTimed (g.T.MicroClock.tells_micros c.args.timer.now) g.R.Results.took in
    let world = world_of g.W.Wire.untouched g.W.Wire.happened (g.T.Clock.tells c.args.timer.now) in
    let may_stop = g.T.Timer.may_stop c.args.timer.now in
    let rules_ = rules_of did world may_stop (g.J.Jobs.job_at c.args.jobs.now) took in
    let cache = c.args.cache.now in
    let number = c.in-Job.number in
    let slots = c.loop.self.slab.slots in
    let more = c.begin.new.self.slab.slots in
    let was = g.J.Jobs.drawn c.loop.jobs in
    let is = g.J.Jobs.drawn c.draw.new.self in
    let draws : DrawsNumber (Some number) was is = rw c.in-Job.is at c.draw.ensures.draws in
    let begins = subst (λ (job_at : ℕ → Job). RunsOnWith (rules_of did world may_stop job_at took) number cache slots c.loop.results more c.begin.new.results) (c.draw.ensures.same ∙ c.loop.invariant.jobs) c.begin.ensures.goes in
    record {
      kept = search rules;
      readings = search rules;
      goes = runs_then rules_ (point cache (g.J.Jobs.drawn c.args.jobs.now) c.args.self.now.slab.slots c.args.results.now) (point cache was slots c.loop.results) (point cache is more c.begin.new.results)
          c.loop.invariant.goes (runs_with rules_ number cache slots more c.loop.results c.begin.new.results was is begins draws.0 draws.1);
      jobs = c.draw.ensures.same ∙ c.loop.invariant.jobs;
      fixed = search rules;
    }
