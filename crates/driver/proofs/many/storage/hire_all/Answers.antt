-- One worker more is hired.
use Rattle.std.proofs.Common.{rules, ◌≡◌, ◌∷◌, ◌++◌, [], List, sym, subst, Some, None, refl}
use Rattle.std.specs.List.{All}
use Rattle.std.proofs.lemmas.List.Elements.{All-pop, All-push}
use Rattle.run_loop.specs.Draws.{new_seat}
use Rattle.shared_cache.specs.Passes.{IsPassOf, IsNewPass}
use Rattle.exchange.specs.Dialling.{failed_turns}
use Rattle.run_loop.specs.declared.run_loop.RunLoop.{RunLoop}
use Rattle.driver.specs.ManyWork.{LoopShown, IsHiredLoop, hired_with}
use Rattle.driver.proofs.ManyWork.{IsHiring, one_hired, is_hired}
use Rattle.driver.proofs.many.storage.hire_all.Goals as goal

pub loop-own-preserved : goal.loop-own-preserved
loop-own-preserved g c =
    let names = g.N.Names.names in
    let claim = c.args.claim.now in
    let failures = failed_turns g.D.Dial.shown in
    let own = c.in-Some.own in
    let pass = c.in-Some-pop-2.pass in
    let worker = c.new.result in
    let workers = c.loop-own.workers.items in
    let more = c.push_reserved.new.self.items in
    let loops = All-pop (λ (it : RunLoop g.row.W.Denot g.W.Wire). it.slab.slots ≡ []) c.loop-own.loops.items c.pop-in-Some.new.self.items c.pop-in-Some.result c.pop-in-Some.ensures.items c.loop-own.invariant.empty in
    let empty : c.in-Some-pop.places.slab.slots ≡ [] = rw c.in-Some-pop.is at loops.1 in
    let passes = All-pop (IsPassOf names) c.loop-own.passes.items c.pop-in-Some-2.new.self.items c.pop-in-Some-2.result c.pop-in-Some-2.ensures.items c.loop-own.invariant.passes in
    let of_cache : IsPassOf names pass = rw c.in-Some-pop-2.is at passes.1 in
    let new_passes = All-pop IsNewPass c.loop-own.passes.items c.pop-in-Some-2.new.self.items c.pop-in-Some-2.result c.pop-in-Some-2.ensures.items c.loop-own.invariant.new_passes in
    let is_new : IsNewPass pass = rw c.in-Some-pop-2.is at new_passes.1 in
    let seat : c.split.result ≡ new_seat claim = search rules in
    let pushed : more ≡ workers ++ worker ∷ [] = search rules in
    let left : c.loop-own.tools.items ≡ c.pop.new.self.items ++ own ∷ [] = search rules in
    let shown : worker.hired ≡ Some (hired_with c.in-Some-pop.places.slab.slots own.results (failures own.dial) c.split.result pass) = search rules in
    let none : worker.left ≡ None = search rules in
    let hired = is_hired names claim worker (hired_with c.in-Some-pop.places.slab.slots own.results (failures own.dial) c.split.result pass) shown none empty of_cache is_new seat in
    record {
      loops_left = search rules;
      passes_left = search rules;
      empty = loops.0;
      passes = passes.0;
      new_passes = new_passes.0;
      hired = subst (λ (l : List (LoopShown g.row.W.Denot g.row.F.Denot)). All (IsHiredLoop names claim) l) (sym pushed) (All-push (IsHiredLoop names claim) workers worker c.loop-own.invariant.hired hired);
      begun = subst (λ (l : List (LoopShown g.row.W.Denot g.row.F.Denot)). IsHiring failures c.args.tools.items c.pop.new.self.items l) (sym pushed)
          (one_hired failures c.args.tools.items c.loop-own.tools.items c.pop.new.self.items own workers worker (hired_with c.in-Some-pop.places.slab.slots own.results (failures own.dial) c.split.result pass) left shown refl refl c.loop-own.invariant.begun);
      number = search rules;
      room = search rules;
      seat = search rules;
      share = search rules;
    }
