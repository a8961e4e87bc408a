-- A job that joins is begun; one that does not has its result, and nothing was done for it.
use Rattle.std.proofs.Common.{◌≡◌, refl, sym, subst, List, Option}
use Rattle.exchange.specs.declared.done.Done.TheVariants.{Bad}
use Rattle.exchange.specs.declared.done.Fault.TheVariants.{Memory}
use Rattle.exchange.specs.Transfers.{TransferShown}
use Rattle.exchange.specs.Worlds.{world_of}
use Rattle.run_loop.specs.Going.{rules_of, RunsOnWith}
use Rattle.run_loop.specs.Moments.{TakesTimed}
use Rattle.run_loop.specs.Steps.{JoinsAs}
use Rattle.run_loop.proofs.RunningOn.{begins_without, begins_joined}
use Rattle.run_loop.proofs.run_loop.RunLoop.begin.Goals as goal

pub returns-then-joins-clause-goes : goal.returns-then-joins-clause-goes
returns-then-joins-clause-goes g c =
    let rules_ = rules_of g.C.Cache.did (world_of g.W.Wire.untouched g.W.Wire.happened (g.T.Clock.tells c.args.timer.now)) (g.T.Timer.may_stop c.args.timer.now) (g.J.Jobs.job_at c.args.jobs.now) (TakesTimed (g.T.MicroClock.tells_micros c.args.timer.now) g.R.Results.took) in
    let slots = c.args.self.now.slab.slots in
    let more = c.joins.new.self.slab.slots in
    let job = g.J.Jobs.job_at c.args.jobs.now c.args.number in
    let joins : JoinsAs job c.args.number slots more = rw c.if-joins.true at c.joins.ensures.joins in
    begins_joined rules_ c.args.number c.args.cache.now slots more c.args.results.now joins

pub returns-clause-goes : goal.returns-clause-goes
returns-clause-goes g c =
    let rules_ = rules_of g.C.Cache.did (world_of g.W.Wire.untouched g.W.Wire.happened (g.T.Clock.tells c.args.timer.now)) (g.T.Timer.may_stop c.args.timer.now) (g.J.Jobs.job_at c.args.jobs.now) (TakesTimed (g.T.MicroClock.tells_micros c.args.timer.now) g.R.Results.took) in
    let slots = c.args.self.now.slab.slots in
    let more = c.joins.new.self.slab.slots in
    let same : more ≡ slots = rw c.if-joins.false at c.joins.ensures.joins in
    subst (λ (l : List (Option (TransferShown g.row.W.Denot))). RunsOnWith rules_ c.args.number c.args.cache.now slots c.args.results.now l c.take.new.self) (sym same)
    (begins_without rules_ c.args.number c.args.cache.now slots c.args.results.now c.take.new.self (Bad Memory) c.no_span.result refl (c.take.ensures, c.no_span.ensures.timed))
