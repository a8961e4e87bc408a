use Rattle.std.proofs.Common.{rules, ◌≡◌, ◌∷◌, ◌++◌, [], arith, sym, subst}
use Rattle.std.specs.List.{All}
use Rattle.std.proofs.lemmas.List.Elements.{All-pop, All-push}
use Rattle.shared_cache.specs.Passes.{IsPassOf}
use Rattle.load_run.proofs.CollectedWork.{figures_on, unbegun_on, passes_on, figures_all, unbegun_all, passes_all}
use Rattle.load_run.proofs.account.Collected.take.Goals as goal

pub loop-last-init : goal.loop-last-init
loop-last-init g c = record {
  of_cache = search rules;
  left_of_cache = search rules;
  room = search rules;
  figures = λ _ adds. adds;
  unbegun = search rules;
  passes = search rules;
}

pub loop-last-preserved : goal.loop-last-preserved
loop-last-preserved g c =
    let names = g.N.Names.names in
    let workers = c.loop-last.workers.items in
    let rest = c.pop.new.self.items in
    let last = c.in-Some.last in
    let popped : workers ≡ rest ++ last ∷ [] = rw c.in-Some.is at c.pop.ensures.items in
    let shorter = rw c.in-Some.is at c.pop.ensures.len in
    let left = All-pop (λ own. IsPassOf names own.pass) workers rest c.pop.result c.pop.ensures.items c.loop-last.invariant.left_of_cache in
    record {
      of_cache = subst (λ passes. All (IsPassOf names) passes) (sym c.push_reserved.ensures.items) (All-push (IsPassOf names) c.loop-last.passes.items _ c.loop-last.invariant.of_cache (rw c.in-Some.is at left.1));
      left_of_cache = left.0;
      room = omega (arith, shorter, c.loop-last.invariant.room, c.push_reserved.ensures.len, c.push_reserved.ensures.capacity);
      figures = figures_on workers rest last popped _ c.loop-last.figures _ _ (record { all = c.join.ensures.all; sites = c.join.ensures.hosts; intervals = c.join.ensures.intervals }) c.loop-last.invariant.figures;
      unbegun = unbegun_on workers rest last popped c.loop-last.unbegun _ _ (search rules) c.loop-last.invariant.unbegun;
      passes = passes_on workers rest last popped c.loop-last.passes.items _ _ (search rules) c.loop-last.invariant.passes;
    }

pub returns-clause-collects : goal.returns-clause-collects
returns-clause-collects g c =
    let workers = c.loop-last.workers.items in
    let none : workers ≡ [] = search rules in
    record {
      figures = figures_all workers none _ c.loop-last.figures _ c.loop-last.invariant.figures;
      unbegun = unbegun_all workers none c.loop-last.unbegun _ c.loop-last.invariant.unbegun;
      passes = passes_all workers none c.loop-last.passes.items _ c.loop-last.invariant.passes;
    }
