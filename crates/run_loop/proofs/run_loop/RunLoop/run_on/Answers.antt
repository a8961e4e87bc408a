-- The run goes on round by round: by what it polls, by what it stops, and then by what it begins.
use Rattle.std.proofs.Common.{rules, subst, sym, ◌∙◌, List, Option}
use Rattle.exchange.specs.Transfers.{TransferShown}
use Rattle.exchange.specs.Worlds.{world_of}
use Rattle.run_loop.specs.Going.{rules_of, point, RunsOn}
use Rattle.run_loop.specs.Moments.{TakesTimed}
use Rattle.run_loop.proofs.RunningOn.{runs_same, runs_then, runs_in_turn}
use Rattle.run_loop.proofs.run_loop.RunLoop.run_on.Goals as goal

pub loop-init : goal.loop-init
loop-init g c =
    let rules_ = rules_of g.C.Cache.did (world_of g.W.Wire.untouched g.W.Wire.happened (g.T.Clock.tells c.args.timer.now)) (g.T.Timer.may_stop c.args.timer.now) (g.J.Jobs.job_at c.args.jobs.now) (TakesTimed (g.T.MicroClock.tells_micros c.args.timer.now) g.R.Results.took) in
    let first = point c.args.cache.now (g.J.Jobs.drawn c.args.jobs.now) c.args.self.now.slab.slots c.args.results.now in
    record {
      stays = search rules;
      kept = search rules;
      readings = search rules;
      goes = subst (λ (slots : List (Option (TransferShown g.row.W.Denot))). RunsOn rules_ first (point c.args.cache.now (g.J.Jobs.drawn c.args.jobs.now) slots c.args.results.now)) (sym c.set_out.ensures.slots) (runs_same rules_ first);
      jobs = search rules;
      fixed = search rules;
      over = search rules;
      turns = search rules;
    }

pub loop-preserved : goal.loop-preserved
loop-preserved g c =
    let did = g.C.Cache.did in
    let took = TakesTimed (g.T.MicroClock.tells_micros c.args.timer.now) g.R.Results.took in
    let world = world_of g.W.Wire.untouched g.W.Wire.happened (g.T.Clock.tells c.args.timer.now) in
    let may_stop = g.T.Timer.may_stop c.args.timer.now in
    let job_at = g.J.Jobs.job_at in
    let drawn = g.J.Jobs.drawn in
    let rules_ = rules_of did world may_stop (job_at c.loop.jobs) took in
    let polled = c.poll_due.new in
    let swept = c.sweep.new in
    let filled = c.fill-next.new in
    let before = point c.loop.cache (drawn c.loop.jobs) c.loop.self.slab.slots c.loop.results in
    let second = point polled.cache (drawn c.loop.jobs) polled.self.slab.slots polled.results in
    let third = point swept.cache (drawn c.loop.jobs) swept.self.slab.slots swept.results in
    let after = point swept.cache (drawn filled.jobs) filled.self.slab.slots filled.results in
    let polls = subst (λ (slots : List (Option (TransferShown g.row.W.Denot))). RunsOn rules_ (point c.loop.cache (drawn c.loop.jobs) slots c.loop.results) second) c.rest.ensures.slots c.poll_due.ensures.goes in
    let goes = runs_then rules_ before second after polls (runs_then rules_ second third after c.sweep.ensures.goes c.fill-next.ensures.goes) in
    record {
      stays = search rules;
      kept = search rules;
      readings = search rules;
      goes = runs_in_turn did world may_stop took (job_at c.args.jobs.now) (job_at c.loop.jobs) c.loop.invariant.jobs
          (point c.args.cache.now (drawn c.args.jobs.now) c.args.self.now.slab.slots c.args.results.now) before after c.loop.invariant.goes goes;
      jobs = c.fill-next.ensures.jobs ∙ c.loop.invariant.jobs;
      fixed = search rules;
      over = search rules;
      turns = search rules;
    }

pub returns-in-Fault-clause-goes : goal.returns-in-Fault-clause-goes
returns-in-Fault-clause-goes g c =
    let rules_ = rules_of g.C.Cache.did (world_of g.W.Wire.untouched g.W.Wire.happened (g.T.Clock.tells c.args.timer.now)) (g.T.Timer.may_stop c.args.timer.now) (g.J.Jobs.job_at c.args.jobs.now) (TakesTimed (g.T.MicroClock.tells_micros c.args.timer.now) g.R.Results.took) in
    let drawn = g.J.Jobs.drawn in
    subst (λ (slots : List (Option (TransferShown g.row.W.Denot))). RunsOn rules_ (point c.args.cache.now (drawn c.args.jobs.now) c.args.self.now.slab.slots c.args.results.now) (point c.loop.cache (drawn c.loop.jobs) slots c.loop.results))
    (sym c.rest.ensures.slots) c.loop.invariant.goes
