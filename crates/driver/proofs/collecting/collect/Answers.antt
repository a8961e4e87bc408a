use Rattle.std.proofs.Common.{rules, arith, ◌≡◌, ℕ, ◌<◌, ◌⊎◌, ◌∷◌, ◌++◌, [], List, length, drop, Some, None, sym, subst, ◌∙◌, vec_len}
use Rattle.std.specs.List.{sum_by}
use Rattle.std.specs.Prelude.{IfNone}
use Rattle.std.proofs.lemmas.List.{take_at}
use Rattle.run_loop.specs.Draws.{AreFirst}
use Rattle.bundle.specs.Passes.{Accounts}
use Rattle.exchange.specs.Dialling.{failed_turns}
use Rattle.exchange.specs.declared.done.Done.{Done}
use Rattle.exchange.specs.Worlds.{world_of}
use Rattle.shared_cache.specs.Passes.{IsPassOf}
use Rattle.driver.specs.Workers.{WorkerShown, left_with}
use Rattle.driver.specs.Running.{results_of_all}
use Rattle.driver.specs.Hiring.{IsPlaced}
use Rattle.driver.proofs.Collected.{IsGoing, IsCollected, none_left_yet, last_worked, next_going, same_going, places_within, drew_past, each_fits, some_from}
use Rattle.driver.specs.declared.fault.DriverFault.{DriverFault}
use Rattle.driver.specs.Quits.{first_quit}
use Rattle.driver.specs.Turns.{failed_of, FaultTurns}
use Rattle.driver.proofs.Turned.{HaveQuit, none_quit, one_quits, no_dials_left, one_dial_more, all_dials, all_still, fault_turns}
use Rattle.driver.proofs.collecting.collect.Goals as goal

pub loop-worker-init : goal.loop-worker-init
loop-worker-init g c =
    let world = (world_of g.W.Wire.untouched g.W.Wire.happened (g.K.Clock.tells c.args.shared.now.clock.now)) in
    let may_stop = (g.G.Gate.may_stop c.args.shared.now.gate.now) in
    let names = g.N.Names.names in
    let jobs = c.args.shared.now.jobs.now in
    let claim = c.args.shared.now.claim.now in
    let all = vec_len c.args.workers in
    let number : length c.args.results.items ≡ length jobs = search rules in
    let count : length c.args.workers.items ≡ all = search rules in
    record {
      going = subst (λ (passes : List Accounts). IsGoing world may_stop names jobs claim all c.args.seat c.args.workers.items c.args.results.items passes None) (sym c.requires.none)
          (none_left_yet world may_stop names jobs claim all c.args.seat c.args.workers.items c.args.results.items c.requires.claim (search rules) number c.requires.worked count);
      room = search rules;
      count = search rules;
      quits = none_quit c.args.workers.items;
      dials = no_dials_left (failed_turns g.D.Dial.shown) c.args.workers.items;
    }

pub leave-other-requires : goal.leave-other-requires
leave-other-requires g c =
    let world = (world_of g.W.Wire.untouched g.W.Wire.happened (g.K.Clock.tells c.args.shared.now.clock.now)) in
    let may_stop = (g.G.Gate.may_stop c.args.shared.now.gate.now) in
    let names = g.N.Names.names in
    let jobs = c.args.shared.now.jobs.now in
    let claim = c.args.shared.now.claim.now in
    let all = vec_len c.args.workers in
    let going = c.loop-worker.invariant.going in
    let workers = c.loop-worker.workers.items in
    let rest = c.pop.new.self.items in
    let popped : workers ≡ rest ++ c.in-Some.worker ∷ [] = search rules in
    let has = last_worked world may_stop names jobs claim all workers rest c.in-Some.worker popped going.worked in
    some_from (IsPassOf names) c.in-Some.worker.pass has.pass_is

pub join-requires-clause-other : goal.join-requires-clause-other
join-requires-clause-other g c =
    let world = (world_of g.W.Wire.untouched g.W.Wire.happened (g.K.Clock.tells c.args.shared.now.clock.now)) in
    let may_stop = (g.G.Gate.may_stop c.args.shared.now.gate.now) in
    let names = g.N.Names.names in
    let jobs = c.args.shared.now.jobs.now in
    let claim = c.args.shared.now.claim.now in
    let all = vec_len c.args.workers in
    let going = c.loop-worker.invariant.going in
    let workers = c.loop-worker.workers.items in
    let rest = c.pop.new.self.items in
    let popped : workers ≡ rest ++ c.in-Some.worker ∷ [] = search rules in
    let left = c.leave-other.result in
    let last : workers ≡ rest ++ left_with c.in-Some.worker.opened c.in-Some.worker.failed left.seat left.pass left.results.items left.quit ∷ [] = subst (λ (worker : WorkerShown). workers ≡ rest ++ worker ∷ []) c.leave-other.ensures.left popped in
    let has = last_worked world may_stop names jobs claim all workers rest (left_with c.in-Some.worker.opened c.in-Some.worker.failed left.seat left.pass left.results.items left.quit) last going.worked in
    has.claim_is

pub place-requires : goal.place-requires
place-requires g c =
    let world = (world_of g.W.Wire.untouched g.W.Wire.happened (g.K.Clock.tells c.args.shared.now.clock.now)) in
    let may_stop = (g.G.Gate.may_stop c.args.shared.now.gate.now) in
    let names = g.N.Names.names in
    let jobs = c.args.shared.now.jobs.now in
    let claim = c.args.shared.now.claim.now in
    let all = vec_len c.args.workers in
    let going = c.loop-worker.invariant.going in
    let workers = c.loop-worker.workers.items in
    let rest = c.pop.new.self.items in
    let popped : workers ≡ rest ++ c.in-Some.worker ∷ [] = search rules in
    let left = c.leave-other.result in
    let last : workers ≡ rest ++ left_with c.in-Some.worker.opened c.in-Some.worker.failed left.seat left.pass left.results.items left.quit ∷ [] = subst (λ (worker : WorkerShown). workers ≡ rest ++ worker ∷ []) c.leave-other.ensures.left popped in
    let has = last_worked world may_stop names jobs claim all workers rest (left_with c.in-Some.worker.opened c.in-Some.worker.failed left.seat left.pass left.results.items left.quit) last going.worked in
    places_within world may_stop names jobs claim all left.results.items c.deref.result.now c.loop-worker.results.items c.deref_mut.result.now (search rules) (search rules) has.fit going.number

pub loop-worker-preserved : goal.loop-worker-preserved
loop-worker-preserved g c =
    let world = (world_of g.W.Wire.untouched g.W.Wire.happened (g.K.Clock.tells c.args.shared.now.clock.now)) in
    let may_stop = (g.G.Gate.may_stop c.args.shared.now.gate.now) in
    let names = g.N.Names.names in
    let jobs = c.args.shared.now.jobs.now in
    let claim = c.args.shared.now.claim.now in
    let all = vec_len c.args.workers in
    let going = c.loop-worker.invariant.going in
    let workers = c.loop-worker.workers.items in
    let rest = c.pop.new.self.items in
    let popped : workers ≡ rest ++ c.in-Some.worker ∷ [] = search rules in
    let left = c.leave-other.result in
    let last : workers ≡ rest ++ left_with c.in-Some.worker.opened c.in-Some.worker.failed left.seat left.pass left.results.items left.quit ∷ [] = subst (λ (worker : WorkerShown). workers ≡ rest ++ worker ∷ []) c.leave-other.ensures.left popped in
    let results = c.loop-worker.results.items in
    let put = c.place.new.results in
    let own_is : c.deref.result.now ≡ left.results.items = search rules in
    let results_are : c.deref_mut.result.now ≡ results = search rules in
    let placed : IsPlaced left.results.items results put = subst (λ (list : List Done). IsPlaced left.results.items list put) results_are (subst (λ own. IsPlaced own c.deref_mut.result.now put) own_is c.place.ensures) in
    let long : length put ≡ c.loop-worker.results.len = search rules in
    let next = next_going world may_stop names jobs claim all c.in-Some.worker.opened c.in-Some.worker.failed c.loop-worker.seat left.seat workers rest results put c.loop-worker.passes.items left.pass left.results.items left.quit c.loop-worker.quit last placed going in
    let gone = left_with c.in-Some.worker.opened c.in-Some.worker.failed left.seat left.pass left.results.items left.quit in
    let dial = c.leave-other.ensures.dial in
    let first : c.first_of-quit.result ≡ first_quit left.quit c.loop-worker.quit = search rules in
    record {
      going = same_going world may_stop names jobs claim all _ c.join.new.seat rest put _ _ c.push_reserved.new.self.items _ c.first_of-quit.result (search rules) (take_at put (drop (length put) results) c.loop-worker.results.len long) (search rules) first next;
      room = search rules;
      count = search rules;
      quits = subst (HaveQuit c.args.workers.items rest) (sym first) (one_quits c.args.workers.items workers rest gone c.loop-worker.quit last c.loop-worker.invariant.quits);
      dials = one_dial_more (failed_turns g.D.Dial.shown) c.args.workers.items workers rest gone dial.0 last dial.1 c.loop-worker.invariant.dials;
    }

pub returns-clause-ok : goal.returns-clause-ok
returns-clause-ok g c =
    let world = (world_of g.W.Wire.untouched g.W.Wire.happened (g.K.Clock.tells c.args.shared.now.clock.now)) in
    let may_stop = (g.G.Gate.may_stop c.args.shared.now.gate.now) in
    let names = g.N.Names.names in
    let jobs = c.args.shared.now.jobs.now in
    let claim = c.args.shared.now.claim.now in
    let all = vec_len c.args.workers in
    let going = c.loop-worker.invariant.going in
    let workers = c.loop-worker.workers.items in
    let seat = c.loop-worker.seat in
    let well : c.loop-worker.quit ≡ None = search rules in
    let none : length workers ≡ 0 = search rules in
    let some : 0 < all = search rules in
    let count = going.passes_number in
    let so_far : IsCollected world may_stop names jobs seat c.loop-worker.results.items c.loop-worker.passes.items = subst (λ quit. IfNone quit (IsCollected world may_stop names jobs seat c.loop-worker.results.items c.loop-worker.passes.items)) well going.collected in
    let past : 0 < seat.past = drew_past world may_stop names jobs claim all seat workers none some (subst (λ quit. IfNone quit ((length workers ≡ all) ⊎ (0 < seat.past))) well going.past) in
    let once : AreFirst (length jobs) seat.drawn = subst (λ count. AreFirst count seat.drawn) c.requires.jobs (c.load-drawn.ensures.all past) in
    record {
      all_work = so_far.all_work;
      worked = so_far.worked;
      once = subst (AreFirst (length jobs)) so_far.drawn once;
      number = going.number;
      each = each_fits world may_stop names jobs c.loop-worker.results.items (results_of_all so_far.all_work) seat.drawn so_far.drawn so_far.held so_far.fits once;
      passes_are = so_far.passes_are;
      passes_number = omega (arith, count, none);
      passes = going.passes_of;
    }

pub returns-clause-turns : goal.returns-clause-turns
returns-clause-turns g c =
    let all = c.args.workers.items in
    let left = c.loop-worker.workers.items in
    let none : length left ≡ 0 = search rules in
    let count : length all ≡ vec_len c.args.workers = search rules in
    let well : c.loop-worker.quit ≡ None = search rules in
    let gone = c.loop-worker.invariant.dials in
    let have : HaveQuit all left None = subst (HaveQuit all left) well c.loop-worker.invariant.quits in
    let end = all_dials (failed_turns g.D.Dial.shown) all left none gone in
    let number = end.0 in
    λ dials same turned. record {
      later = gone.dials;
      number = omega (arith, number, same, count);
      turns = end.1 ∙ all_still (sum_by (failed_turns g.D.Dial.shown) dials) all left none have turned;
    }

pub returns-in-Some-quit-clause-turns : goal.returns-in-Some-quit-clause-turns
returns-in-Some-quit-clause-turns g c =
    let all = c.args.workers.items in
    let left = c.loop-worker.workers.items in
    let none : length left ≡ 0 = search rules in
    let count : length all ≡ vec_len c.args.workers = search rules in
    let gone = c.loop-worker.invariant.dials in
    let have : HaveQuit all left (Some c.in-Some-quit.quit) = subst (HaveQuit all left) c.in-Some-quit.is c.loop-worker.invariant.quits in
    let end = all_dials (failed_turns g.D.Dial.shown) all left none gone in
    let number = end.0 in
    λ dials same turned.
    let before = sum_by (failed_turns g.D.Dial.shown) dials in
    let so : FaultTurns c.fault.result before (sum_by failed_of all) = subst (λ (found : DriverFault). FaultTurns found before (sum_by failed_of all)) (sym c.fault.ensures.is) (fault_turns before all left c.in-Some-quit.quit have turned) in
    record {
      later = gone.dials;
      number = omega (arith, number, same, count);
      turns = subst (λ (count : ℕ). FaultTurns c.fault.result before count) (sym end.1) so;
    }
