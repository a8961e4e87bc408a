-- A loop in which nothing is under way is run to its end.
use Rattle.std.proofs.Common.{refl, sym, subst, List, [], Option, None, IfSome, ℕ, length}
use Rattle.std.proofs.lemmas.List.Elements.{All-nil, All-replicate}
use Rattle.exchange.specs.Transfers.{TransferShown}
use Rattle.exchange.specs.Worlds.{world_of}
use Rattle.transfer_slab.specs.Slabs.{AreKept, IsKept}
use Rattle.run_loop.specs.Going.{rules_of, point, RunsOn}
use Rattle.run_loop.specs.Moments.{AreReadings, TakesTimed}
use Rattle.run_loop.proofs.RunningOn.{runs_whole, may_close_from}
use Rattle.run_loop.proofs.run_loop.RunLoop.run.Goals as goal

pub run_on-end-requires : goal.run_on-end-requires
run_on-end-requires g c =
    let world = world_of g.W.Wire.untouched g.W.Wire.happened (g.T.Clock.tells c.args.timer.now) in
    let home = g.C.Cache.home c.args.cache.now in
    let is_reading = g.T.MicroClock.tells_micros c.args.timer.now in
    record {
      kept = subst (λ (slots : List (Option (TransferShown g.row.W.Denot))). AreKept world home slots) (sym c.requires) (All-nil (λ (slot : Option (TransferShown g.row.W.Denot)). IfSome slot (IsKept world home)));
      readings = subst (λ (moments : List (Option ℕ)). AreReadings is_reading moments) (sym {A = List (Option ℕ)} c.forget.ensures) (All-replicate (λ (moment : Option ℕ). IfSome moment is_reading) (length c.args.self.begins.moments.items) None tt);
    }

pub returns-clause-ends : goal.returns-clause-ends
returns-clause-ends g c =
    let did = g.C.Cache.did in
    let took = TakesTimed (g.T.MicroClock.tells_micros c.args.timer.now) g.R.Results.took in
    let world = world_of g.W.Wire.untouched g.W.Wire.happened (g.T.Clock.tells c.args.timer.now) in
    let may_stop = g.T.Timer.may_stop c.args.timer.now in
    let job_at = g.J.Jobs.job_at in
    let drawn = g.J.Jobs.drawn in
    let went = c.run_on-end.new in
    let last = c.shut_down.new in
    let rules_ = rules_of did world may_stop (job_at c.args.jobs.now) took in
    let first = point c.args.cache.now (drawn c.args.jobs.now) [] c.args.results.now in
    let middle = point went.cache (drawn went.jobs) went.self.slab.slots went.results in
    let goes = subst (λ (slots : List (Option (TransferShown g.row.W.Denot))). RunsOn rules_ (point c.args.cache.now (drawn c.args.jobs.now) slots c.args.results.now) middle) c.requires c.run_on-end.ensures.goes in
    runs_whole did world may_stop took c.run_on-end.result (job_at c.args.jobs.now) (job_at went.jobs) c.run_on-end.ensures.jobs first middle (point last.cache (drawn last.jobs) [] last.results) goes c.shut_down.ensures.goes

pub shut_down-requires-clause-may : goal.shut_down-requires-clause-may
shut_down-requires-clause-may g c = may_close_from (g.T.Timer.may_stop c.args.timer.now) c.run_on-end.new.self.slab.slots c.run_on-end.result (c.run_on-end.ensures.empty refl) c.run_on-end.ensures.stopped
