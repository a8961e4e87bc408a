-- The transfer that is closed bears the number of the job that the timer stops.
use Rattle.std.proofs.Common.{rules, subst, ◌≡◌, true, ℕ}
use Rattle.exchange.specs.Worlds.{world_of}
use Rattle.run_loop.specs.Going.{rules_of}
use Rattle.run_loop.specs.Moments.{TakesTimed}
use Rattle.run_loop.proofs.RunningOn.{runs_close_at, may_close_there}
use Rattle.run_loop.proofs.run_loop.RunLoop.stop_at.Goals as goal

pub returns-clause-goes : goal.returns-clause-goes
returns-clause-goes g c =
    let rules_ = rules_of g.C.Cache.did (world_of g.W.Wire.untouched g.W.Wire.happened (g.T.Clock.tells c.args.timer.now)) (g.T.Timer.may_stop c.args.timer.now) (g.J.Jobs.job_at c.args._jobs.now) (TakesTimed (g.T.MicroClock.tells_micros c.args.timer.now) g.R.Results.took) in
    let drawn = g.J.Jobs.drawn c.args._jobs.now in
    let world = world_of g.W.Wire.untouched g.W.Wire.happened (g.T.Clock.tells c.args.timer.now) in
    let may_stop = g.T.Timer.may_stop c.args.timer.now in
    let home = g.C.Cache.home c.args.cache.now in
    let slots = c.args.self.now.slab.slots in
    let left = c.close_at.new.self.slots in
    let done = c.in-Some-close_at.done in
    let used = c.in-Some-close_at.used in
    let closes = c.in-Some-close_at.ensures.closes in
    let stopped : c.stops.result ≡ true = search rules in
    let stops : may_stop c.in-Some.number = rw stopped at c.stops.ensures in
    let may = may_close_there g.C.Cache.did world home c.args.cache.now c.close_at.new.cache g.D.Dial.shown c.args.dial.now c.close_at.new.dial slots left c.args.place (done, used) may_stop c.in-Some.number c.in-Some.ensures.number closes stops in
    let took : g.R.Results.took c.args.results.now c.take.new.self used.want.transfer done c.span-span.result = subst (λ (n : ℕ). g.R.Results.took c.args.results.now c.take.new.self n done c.span-span.result) c.transfer.ensures c.take.ensures in
    runs_close_at rules_ home c.args.cache.now c.close_at.new.cache g.D.Dial.shown c.args.dial.now c.close_at.new.dial drawn slots left c.args.results.now c.take.new.self c.args.place done used c.span-span.result closes may (took, c.span-span.ensures.timed)
