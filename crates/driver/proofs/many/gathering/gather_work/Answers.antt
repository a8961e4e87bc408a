-- One worker after another is gathered, from the last one on.
use Rattle.std.proofs.Common.{rules, ◌≡◌, ◌<◌, ◌∷◌, ◌++◌, [], List, length, sym, subst, refl}
use Rattle.std.proofs.lemmas.List.Elements.{All-push}
use Rattle.run_loop.specs.Draws.{Drawn, together}
use Rattle.exchange.specs.Dialling.{failed_turns}
use Rattle.exchange.specs.Worlds.{world_of}
use Rattle.shared_cache.specs.Passes.{IsPassOf}
use Rattle.run_loop.specs.Moments.{TakesTimed}
use Rattle.driver.specs.declared.many.worker.Finished.{Finished}
use Rattle.run_loop.specs.declared.run_end.RunEnd.{RunEnd}
use Rattle.run_loop.specs.Going.{worse_end}
use Rattle.driver.specs.ManyWork.{HavePasses, left_with}
use Rattle.driver.proofs.Gathered.{IsGathered, none_gathered, one_gathered, has_last, pass_of_last, all_gathered}
use Rattle.driver.proofs.many.gathering.gather_work.Goals as goal

pub loop-worker-init : goal.loop-worker-init
loop-worker-init g c =
    let world = world_of g.W.Wire.untouched g.W.Wire.happened (g.T.Clock.tells c.args.common.now.timer.now) in
    let may_stop = g.T.Timer.may_stop c.args.common.now.timer.now in
    let none : c.args.seat.drawn ≡ [] = search rules in
    record {
      gathered = λ begun. none_gathered world may_stop g.N.Names.names (g.S.JobSource.job_at c.args.common.now.source.now) (TakesTimed (g.T.MicroClock.tells_micros c.args.common.now.timer.now) g.F.Results.took) (failed_turns g.D.Dial.shown) c.args.common.now.claim.now begun c.args.seat c.args.workers.items c.args.finished.items none c.requires.none;
      passes = search rules;
      at = search rules;
      share = search rules;
      room = search rules;
      count = search rules;
    }

pub into_left-dial-requires-clause-none : goal.into_left-dial-requires-clause-none
into_left-dial-requires-clause-none g c =
    let world = world_of g.W.Wire.untouched g.W.Wire.happened (g.T.Clock.tells c.args.common.now.timer.now) in
    let may_stop = g.T.Timer.may_stop c.args.common.now.timer.now in
    let popped : c.loop-worker.workers.items ≡ c.pop.new.self.items ++ c.in-Some.worker ∷ [] = search rules in
    let some = c.requires.left in
    (has_last world may_stop g.N.Names.names (g.S.JobSource.job_at c.args.common.now.source.now) (TakesTimed (g.T.MicroClock.tells_micros c.args.common.now.timer.now) g.F.Results.took) (failed_turns g.D.Dial.shown) c.args.common.now.claim.now some.0 c.loop-worker.seat c.loop-worker.workers.items c.pop.new.self.items c.in-Some.worker c.loop-worker.finished.items c.loop-worker.end popped
    (c.loop-worker.invariant.gathered some.0 some.1)).0

pub into_left-dial-requires-clause-some : goal.into_left-dial-requires-clause-some
into_left-dial-requires-clause-some g c =
    let world = world_of g.W.Wire.untouched g.W.Wire.happened (g.T.Clock.tells c.args.common.now.timer.now) in
    let may_stop = g.T.Timer.may_stop c.args.common.now.timer.now in
    let popped : c.loop-worker.workers.items ≡ c.pop.new.self.items ++ c.in-Some.worker ∷ [] = search rules in
    let some = c.requires.left in
    (has_last world may_stop g.N.Names.names (g.S.JobSource.job_at c.args.common.now.source.now) (TakesTimed (g.T.MicroClock.tells_micros c.args.common.now.timer.now) g.F.Results.took) (failed_turns g.D.Dial.shown) c.args.common.now.claim.now some.0 c.loop-worker.seat c.loop-worker.workers.items c.pop.new.self.items c.in-Some.worker c.loop-worker.finished.items c.loop-worker.end popped
    (c.loop-worker.invariant.gathered some.0 some.1)).1

pub join-requires-clause-other : goal.join-requires-clause-other
join-requires-clause-other g c =
    let world = world_of g.W.Wire.untouched g.W.Wire.happened (g.T.Clock.tells c.args.common.now.timer.now) in
    let may_stop = g.T.Timer.may_stop c.args.common.now.timer.now in
    let popped : c.loop-worker.workers.items ≡ c.pop.new.self.items ++ c.in-Some.worker ∷ [] = search rules in
    let some = c.requires.left in
    let it = c.into_left-dial.result in
    (pass_of_last world may_stop g.N.Names.names (g.S.JobSource.job_at c.args.common.now.source.now) (TakesTimed (g.T.MicroClock.tells_micros c.args.common.now.timer.now) g.F.Results.took) (failed_turns g.D.Dial.shown) c.args.common.now.claim.now some.0 c.loop-worker.seat c.loop-worker.workers.items c.pop.new.self.items c.in-Some.worker
    (left_with it.results (failed_turns g.D.Dial.shown it.dial) it.seat it.pass it.end) c.loop-worker.finished.items c.loop-worker.end popped c.into_left-dial.ensures (c.loop-worker.invariant.gathered some.0 some.1)).1

pub loop-worker-preserved : goal.loop-worker-preserved
loop-worker-preserved g c =
    let world = world_of g.W.Wire.untouched g.W.Wire.happened (g.T.Clock.tells c.args.common.now.timer.now) in
    let may_stop = g.T.Timer.may_stop c.args.common.now.timer.now in
    let names = g.N.Names.names in
    let job_at = g.S.JobSource.job_at c.args.common.now.source.now in
    let took = TakesTimed (g.T.MicroClock.tells_micros c.args.common.now.timer.now) g.F.Results.took in
    let failures = failed_turns g.D.Dial.shown in
    let claim = c.args.common.now.claim.now in
    let seat = c.loop-worker.seat in
    let workers = c.loop-worker.workers.items in
    let rest = c.pop.new.self.items in
    let worker = c.in-Some.worker in
    let finished = c.loop-worker.finished.items in
    let end = c.loop-worker.end in
    let it = c.into_left-dial.result in
    let left = left_with it.results (failures it.dial) it.seat it.pass it.end in
    let own : Finished g.row.D.Denot g.row.F.Denot = record { dial = it.dial; results = it.results; pass = it.pass } in
    let popped : workers ≡ rest ++ worker ∷ [] = search rules in
    let shown = c.into_left-dial.ensures in
    let some = c.requires.left in
    let has = pass_of_last world may_stop names job_at took failures claim some.0 seat workers rest worker left finished end popped shown (c.loop-worker.invariant.gathered some.0 some.1) in
    let share : it.seat.share ≡ 1 = has.2 in
    let joined : c.join.new.seat ≡ together seat it.seat = search rules in
    let pushed : c.push_reserved.new.self.items ≡ finished ++ own ∷ [] = search rules in
    let worse : c.or_worse-end.result ≡ worse_end it.end end = search rules in
    record {
      gathered = λ begun looped.
          subst (λ (s : Drawn). IsGathered world may_stop names job_at took failures claim begun s rest c.push_reserved.new.self.items c.or_worse-end.result) (sym joined)
          (subst (λ (l : List (Finished g.row.D.Denot g.row.F.Denot)). IsGathered world may_stop names job_at took failures claim begun (together seat it.seat) rest l c.or_worse-end.result) (sym pushed)
          (subst (λ (e : RunEnd). IsGathered world may_stop names job_at took failures claim begun (together seat it.seat) rest (finished ++ own ∷ []) e) (sym worse)
          (one_gathered world may_stop names job_at took failures claim begun seat workers rest worker left finished own end popped shown refl refl refl (c.loop-worker.invariant.gathered begun looped))));
      passes = subst (λ (l : List (Finished g.row.D.Denot g.row.F.Denot)). HavePasses names l) (sym pushed) (All-push (λ (o : Finished g.row.D.Denot g.row.F.Denot). IsPassOf names o.pass) finished own c.loop-worker.invariant.passes has.0);
      at = search rules;
      share = search rules;
      room = search rules;
      count = search rules;
    }

pub returns-clause-gathers : goal.returns-clause-gathers
returns-clause-gathers g c =
    let world = world_of g.W.Wire.untouched g.W.Wire.happened (g.T.Clock.tells c.args.common.now.timer.now) in
    let may_stop = g.T.Timer.may_stop c.args.common.now.timer.now in
    let none : length c.loop-worker.workers.items ≡ 0 = search rules in
    let some : 0 < length c.loop-worker.finished.items = search rules in
    λ begun looped. all_gathered world may_stop g.N.Names.names (g.S.JobSource.job_at c.args.common.now.source.now) (TakesTimed (g.T.MicroClock.tells_micros c.args.common.now.timer.now) g.F.Results.took) (failed_turns g.D.Dial.shown) c.args.common.now.claim.now begun c.loop-worker.seat c.loop-worker.workers.items c.loop-worker.finished.items c.loop-worker.end c.load-drawn.result
    none some c.load-drawn.ensures.once c.load-drawn.ensures.within c.load-drawn.ensures.none_left (c.loop-worker.invariant.gathered begun looped)
