-- One place after another is looked at.
use Rattle.std.proofs.Common.{rules, ◌≡◌, subst, sym, List, Option}
use Rattle.exchange.specs.Transfers.{TransferShown}
use Rattle.exchange.specs.Worlds.{world_of}
use Rattle.run_loop.specs.Going.{rules_of, point, RunsOn}
use Rattle.run_loop.specs.Moments.{TakesTimed}
use Rattle.run_loop.proofs.RunningOn.{runs_same, runs_then}
use Rattle.run_loop.proofs.run_loop.RunLoop.sweep.Goals as goal

pub loop-place-init : goal.loop-place-init
loop-place-init g c =
    let rules_ = rules_of g.C.Cache.did (world_of g.W.Wire.untouched g.W.Wire.happened (g.T.Clock.tells c.args.timer.now)) (g.T.Timer.may_stop c.args.timer.now) (g.J.Jobs.job_at c.args._jobs.now) (TakesTimed (g.T.MicroClock.tells_micros c.args.timer.now) g.R.Results.took) in
    let drawn = g.J.Jobs.drawn c.args._jobs.now in
    let same : c.ask_sites.new.self.slots ≡ c.args.self.now.slab.slots = search rules in
    record {
      stays = search rules;
      kept = search rules;
      readings = search rules;
      goes = subst (λ (slots : List (Option (TransferShown g.row.W.Denot))). RunsOn rules_ (point c.args.cache.now drawn c.args.self.now.slab.slots c.args.results.now) (point c.args.cache.now drawn slots c.args.results.now)) (sym same)
          (runs_same rules_ (point c.args.cache.now drawn c.args.self.now.slab.slots c.args.results.now));
      turns = search rules;
    }

pub loop-place-preserved : goal.loop-place-preserved
loop-place-preserved g c =
    let rules_ = rules_of g.C.Cache.did (world_of g.W.Wire.untouched g.W.Wire.happened (g.T.Clock.tells c.args.timer.now)) (g.T.Timer.may_stop c.args.timer.now) (g.J.Jobs.job_at c.args._jobs.now) (TakesTimed (g.T.MicroClock.tells_micros c.args.timer.now) g.R.Results.took) in
    let drawn = g.J.Jobs.drawn c.args._jobs.now in
    let after = c.stop_at.new in
    record {
      stays = search rules;
      kept = search rules;
      readings = search rules;
      goes = runs_then rules_ (point c.args.cache.now drawn c.args.self.now.slab.slots c.args.results.now) (point c.loop-place.cache drawn c.loop-place.self.slab.slots c.loop-place.results)
          (point after.cache drawn after.self.slab.slots after.results) c.loop-place.invariant.goes c.stop_at.ensures.goes;
      turns = search rules;
    }
