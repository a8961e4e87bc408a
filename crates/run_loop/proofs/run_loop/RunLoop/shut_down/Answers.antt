-- A job that was drawn early has its result, and then each transfer that is closed.
use Rattle.std.proofs.Common.{subst, List, [], Option}
use Rattle.exchange.specs.Transfers.{TransferShown}
use Rattle.exchange.specs.Worlds.{world_of}
use Rattle.run_loop.specs.Going.{rules_of, rules_at, point, may_stop_at, RunsOn}
use Rattle.run_loop.specs.Moments.{TakesTimed}
use Rattle.run_loop.proofs.RunningOn.{runs_in_turn}
use Rattle.run_loop.proofs.run_loop.RunLoop.shut_down.Goals as goal

pub returns-clause-goes : goal.returns-clause-goes
returns-clause-goes g c =
    let did = g.C.Cache.did in
    let took = TakesTimed (g.T.MicroClock.tells_micros c.args.timer.now) g.R.Results.took in
    let world = world_of g.W.Wire.untouched g.W.Wire.happened (g.T.Clock.tells c.args.timer.now) in
    let may_stop = g.T.Timer.may_stop c.args.timer.now in
    let job_at = g.J.Jobs.job_at in
    let drawn = g.J.Jobs.drawn in
    let early = c.drop_early.new in
    let closed = c.close_all.new in
    let second = point c.args.cache.now (drawn early.jobs) c.args.self.slab.slots early.results in
    let rules_ = rules_at c.args.end (rules_of did world may_stop (job_at early.jobs) took) in
    let closes = subst (λ (slots : List (Option (TransferShown g.row.W.Denot))). RunsOn rules_ second (point closed.cache (drawn early.jobs) slots closed.results)) c.close_all.ensures.none c.close_all.ensures.goes in
    runs_in_turn did world (may_stop_at c.args.end may_stop) took (job_at c.args.jobs.now) (job_at early.jobs) c.drop_early.ensures.jobs
    (point c.args.cache.now (drawn c.args.jobs.now) c.args.self.slab.slots c.args.results.now) second (point closed.cache (drawn early.jobs) [] closed.results) c.drop_early.ensures.goes closes
