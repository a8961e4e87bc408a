-- The run goes on to its end, and what is left is closed.
use Rattle.std.proofs.Common.{refl, []}
use Rattle.exchange.specs.Worlds.{world_of}
use Rattle.run_loop.specs.Going.{point}
use Rattle.run_loop.specs.Moments.{TakesTimed}
use Rattle.run_loop.proofs.RunningOn.{runs_whole, may_close_from}
use Rattle.run_loop.proofs.run_loop.RunLoop.finish.Goals as goal

pub returns-clause-ends : goal.returns-clause-ends
returns-clause-ends g c =
    let did = g.C.Cache.did in
    let took = TakesTimed (g.T.MicroClock.tells_micros c.args.timer.now) g.R.Results.took in
    let world = world_of g.W.Wire.untouched g.W.Wire.happened (g.T.Clock.tells c.args.timer.now) in
    let may_stop = g.T.Timer.may_stop c.args.timer.now in
    let job_at = g.J.Jobs.job_at in
    let drawn = g.J.Jobs.drawn in
    let went = c.run_on-end.new in
    let last = c.shut_down.new in
    runs_whole did world may_stop took c.run_on-end.result (job_at c.args.jobs.now) (job_at went.jobs) c.run_on-end.ensures.jobs
    (point c.args.cache.now (drawn c.args.jobs.now) c.args.self.slab.slots c.args.results.now) (point went.cache (drawn went.jobs) went.self.slab.slots went.results) (point last.cache (drawn last.jobs) [] last.results)
    c.run_on-end.ensures.goes c.shut_down.ensures.goes

pub shut_down-requires-clause-may : goal.shut_down-requires-clause-may
shut_down-requires-clause-may g c = may_close_from (g.T.Timer.may_stop c.args.timer.now) c.run_on-end.new.self.slab.slots c.run_on-end.result (c.run_on-end.ensures.empty refl) c.run_on-end.ensures.stopped
