use Rattle.std.proofs.Common.{rules, arith, ◌≡◌, ◌+◌, ◌<◌, length, ap, sym, subst, ◌∙◌, ℕ, List, [], ◌∷◌, ◌++◌}
use Rattle.std.specs.List.{All}
use Rattle.std.proofs.lemmas.List.{length-append}
use Rattle.std.proofs.lemmas.List.Elements.{All-nil, All-push}
use Rattle.run_loop.specs.Draws.{Drawn}
use Rattle.exchange.specs.declared.done.Done.{Done}
use Rattle.exchange.specs.Worlds.{world_of}
use Rattle.run_loop.specs.Running.{numbers_of}
use Rattle.driver.specs.Results.{IsResultAt, RunsInTurn}
use Rattle.driver.specs.Workers.{AreResults, DrawsOne}
use Rattle.driver.proofs.Collected.{numbers_both}
use Rattle.driver.proofs.InTurn.{none_in_turn, more_in_turn}
use Rattle.driver.proofs.worker.Worker.draw_all.Goals as goal

pub loop-init : goal.loop-init
loop-init g c =
    let did = g.C.Cache.did in
    let world = (world_of g.W.Wire.untouched g.W.Wire.happened (g.K.Clock.tells c.args.shared.now.clock.now)) in
    let may_stop = (g.G.Gate.may_stop c.args.shared.now.gate.now) in
    let jobs = c.args.shared.now.jobs.now in
    let none : c.args.self.now.results ≡ [] = c.requires.no_results in
    let no_draws : c.args.self.now.seat.drawn ≡ [] = c.requires.no_draws in
    record {
      home = search rules;
      carried = subst (RunsInTurn did world may_stop jobs c.args.cache.now c.args.cache.now) (sym none) (none_in_turn did world may_stop jobs c.args.cache.now);
      claim = search rules;
      share = search rules;
      not_past = search rules;
      drawn = no_draws ∙ ap numbers_of (sym none);
      results = subst (AreResults world may_stop jobs) (sym none) (All-nil (λ (result : ℕ × Done). IsResultAt world may_stop jobs result.0 result.1));
      well = search rules;
      opens = omega arith;
      turns = search rules;
      pass = search rules;
    }

pub loop-preserved : goal.loop-preserved
loop-preserved g c =
    let did = g.C.Cache.did in
    let world = (world_of g.W.Wire.untouched g.W.Wire.happened (g.K.Clock.tells c.args.shared.now.clock.now)) in
    let may_stop = (g.G.Gate.may_stop c.args.shared.now.gate.now) in
    let jobs = c.args.shared.now.jobs.now in
    let before = c.loop.self in
    let after = c.draw.new.self in
    let one : DrawsOne did world may_stop jobs c.loop.cache c.draw.new.cache before.seat after.seat before.results after.results = search rules in
    let added : length after.results ≡ length before.results + 1 = ap length one.added ∙ length-append before.results ((one.number, one.done) ∷ []) in
    let above : All (λ n. n < one.number) (numbers_of before.results) = subst (All (λ n. n < one.number)) c.loop.invariant.drawn one.above in
    let so_far = c.loop.invariant.opens in
    let more = c.draw.ensures.opens in
    record {
      home = search rules;
      carried = subst (RunsInTurn did world may_stop jobs c.args.cache.now c.draw.new.cache) (sym one.added) (more_in_turn did world may_stop jobs c.args.cache.now c.loop.cache c.draw.new.cache before.results one.number one.done above one.carried one.result_is c.loop.invariant.carried);
      claim = search rules;
      share = search rules;
      not_past = ap (λ (seat : Drawn). seat.past) one.drawn ∙ c.loop.invariant.not_past;
      drawn = ap (λ (seat : Drawn). seat.drawn) one.drawn ∙ ap (λ (numbers : List ℕ). numbers ++ one.number ∷ []) c.loop.invariant.drawn ∙ sym (numbers_both before.results ((one.number, one.done) ∷ [])) ∙ ap numbers_of (sym one.added);
      results = subst (AreResults world may_stop jobs) (sym one.added) (All-push (λ (result : ℕ × Done). IsResultAt world may_stop jobs result.0 result.1) before.results (one.number, one.done) c.loop.invariant.results one.result_is);
      well = search rules;
      opens = omega (arith, added, so_far, more);
      turns = search rules;
      pass = search rules;
    }
