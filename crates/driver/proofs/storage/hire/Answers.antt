use Rattle.std.proofs.Common.{rules, ◌≡◌, ◌∷◌, ◌++◌, [], sym, subst}
use Rattle.std.specs.Prelude.{IfSome}
use Rattle.std.specs.List.{All}
use Rattle.std.proofs.lemmas.List.Elements.{All-pop, All-push}
use Rattle.run_loop.specs.Draws.{new_seat}
use Rattle.shared_cache.specs.Passes.{IsPassOf, IsNewPass}
use Rattle.exchange.specs.Dialling.{failed_turns}
use Rattle.driver.specs.Hiring.{IsHired}
use Rattle.driver.proofs.Hired.{hired_with}
use Rattle.driver.proofs.Turned.{one_hired}
use Rattle.driver.proofs.storage.hire.Goals as goal

pub loop-dial-preserved : goal.loop-dial-preserved
loop-dial-preserved g c =
    let names = g.N.Names.names in
    let pass = c.in-Some.pass in
    let passes = c.loop-dial.passes.items in
    let fewer = c.pop.new.self.items in
    let its = All-pop (IsPassOf names) passes fewer c.pop.result c.pop.ensures.items c.loop-dial.invariant.passes in
    let its_new = All-pop IsNewPass passes fewer c.pop.result c.pop.ensures.items c.loop-dial.invariant.new_passes in
    let of_cache : IsPassOf names pass = subst (λ result. IfSome result (IsPassOf names)) c.in-Some.is its.1 in
    let is_new : IsNewPass pass = subst (λ result. IfSome result IsNewPass) c.in-Some.is its_new.1 in
    let seat : c.new.result.seat ≡ new_seat c.args.claim.now = search rules in
    let hired : IsHired names c.args.claim.now c.new.result = hired_with names c.args.claim.now c.new.result pass c.new.ensures.pass seat c.new.ensures.no_results c.new.ensures.well of_cache is_new in
    let pushed : c.push_reserved.new.self.items ≡ c.loop-dial.workers.items ++ c.new.result ∷ [] = search rules in
    record {
      passes_left = search rules;
      tasks_left = search rules;
      passes = its.0;
      new_passes = its_new.0;
      hired = subst (All (IsHired names c.args.claim.now)) (sym pushed) (All-push (IsHired names c.args.claim.now) c.loop-dial.workers.items c.new.result c.loop-dial.invariant.hired hired);
      number = search rules;
      room = search rules;
      room_left = search rules;
      seat = search rules;
      share = search rules;
      turns = one_hired (failed_turns g.D.Dial.shown) c.loop-dial.workers.items c.push_reserved.new.self.items c.new.result c.args.dials.now c.loop-dial.dial-index c.loop-dial-item.result pushed (search rules) c.loop-dial-item.is (search rules) c.loop-dial.invariant.turns;
    }
