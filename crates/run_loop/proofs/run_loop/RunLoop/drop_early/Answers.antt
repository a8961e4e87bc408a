-- A job that was set aside has its result, and nothing was done for it.
use Rattle.std.proofs.Common.{rules, ◌≡◌, refl, inl, Some, false}
use Rattle.exchange.specs.declared.done.Done.TheVariants.{Bad}
use Rattle.exchange.specs.declared.done.Fault.TheVariants.{Cancelled}
use Rattle.exchange.specs.Worlds.{world_of}
use Rattle.run_loop.specs.Drawing.{DrawsNumber}
use Rattle.run_loop.specs.Going.{rules_of, rules_at, point, is_complete}
use Rattle.run_loop.specs.Moments.{TakesTimed}
use Rattle.run_loop.proofs.RunningOn.{runs_same, runs_undrawn, runs_with, begins_without, may_close_now}
use Rattle.run_loop.proofs.run_loop.RunLoop.drop_early.Goals as goal

pub returns-then-is_complete-clause-goes : goal.returns-then-is_complete-clause-goes
returns-then-is_complete-clause-goes g c =
    runs_same (rules_at c.args.end (rules_of g.C.Cache.did (world_of g.W.Wire.untouched g.W.Wire.happened (g.T.Clock.tells c.args._timer.now)) (g.T.Timer.may_stop c.args._timer.now) (g.J.Jobs.job_at c.args.jobs.now) (TakesTimed (g.T.MicroClock.tells_micros c.args._timer.now) g.R.Results.took))) (point c.args._cache.now (g.J.Jobs.drawn c.args.jobs.now) c.args.self.now.slab.slots c.args.results.now)

pub returns-in_default-clause-goes : goal.returns-in_default-clause-goes
returns-in_default-clause-goes g c =
    let rules_ = rules_at c.args.end (rules_of g.C.Cache.did (world_of g.W.Wire.untouched g.W.Wire.happened (g.T.Clock.tells c.args._timer.now)) (g.T.Timer.may_stop c.args._timer.now) (g.J.Jobs.job_at c.args.jobs.now) (TakesTimed (g.T.MicroClock.tells_micros c.args._timer.now) g.R.Results.took)) in
    let was = g.J.Jobs.drawn c.args.jobs.now in
    let is = g.J.Jobs.drawn c.draw_early.new.self in
    let draws : is ≡ was = rw c.in_default.is at c.draw_early.ensures.draws in
    runs_undrawn rules_ c.args._cache.now c.args.self.now.slab.slots c.args.results.now was is draws

pub returns-clause-goes : goal.returns-clause-goes
returns-clause-goes g c =
    let rules_ = rules_at c.args.end (rules_of g.C.Cache.did (world_of g.W.Wire.untouched g.W.Wire.happened (g.T.Clock.tells c.args._timer.now)) (g.T.Timer.may_stop c.args._timer.now) (g.J.Jobs.job_at c.args.jobs.now) (TakesTimed (g.T.MicroClock.tells_micros c.args._timer.now) g.R.Results.took)) in
    let was = g.J.Jobs.drawn c.args.jobs.now in
    let is = g.J.Jobs.drawn c.draw_early.new.self in
    let number = c.in-Some.number in
    let slots = c.args.self.now.slab.slots in
    let draws : DrawsNumber (Some number) was is = rw c.in-Some.is at c.draw_early.ensures.draws in
    let incomplete : is_complete c.args.end ≡ false = search rules in
    let may = may_close_now (g.T.Timer.may_stop c.args._timer.now) slots c.args.end incomplete c.requires.may number in
    runs_with rules_ number c.args._cache.now slots slots c.args.results.now c.take.new.self was is
    (begins_without rules_ number c.args._cache.now slots c.args.results.now c.take.new.self (Bad Cancelled) c.no_span.result (may, inl refl) (c.take.ensures, c.no_span.ensures.timed)) draws.0 draws.1
