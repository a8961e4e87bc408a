use Rattle.std.proofs.Common.{◌≡◌, ◌+◌, ◌≤◌, ◌++◌, length, map, reverse, vec_len, vec_capacity}
use Rattle.std.specs.List.{All}
use Rattle.shared_cache.specs.Passes.{IsPassOf}
use Rattle.driver.specs.ManyWork.{HavePasses}
use Rattle.load_figures.specs.Figures.{JobFigures}
use Rattle.load_run.specs.Counting.{AddsAll, with_unbegun}
use Rattle.load_run.specs.ManyLoads.{pass_in, results_in}
use Rattle.load_run.proofs.account.Collected.take.Given as goal

abbrev pub decreases-loop-last : goal.decreases-loop-last
decreases-loop-last g l = length l.workers.items

abbrev pub invariant-loop-last : goal.invariant-loop-last
invariant-loop-last g l = record {
  of_cache : All (IsPassOf g.N.Names.names) l.passes.items;
  left_of_cache : HavePasses g.N.Names.names l.workers.items;
  room : vec_len l.passes + vec_len l.workers ≤ vec_capacity l.passes;
  figures : (target : JobFigures) → AddsAll l.figures (reverse (map results_in l.workers.items)) target → AddsAll l.fn.self.figures (reverse (map results_in l.fn.workers.items)) target;
  unbegun : with_unbegun l.unbegun (reverse (map results_in l.workers.items)) ≡ with_unbegun l.fn.self.unbegun (reverse (map results_in l.fn.workers.items));
  passes : l.passes.items ++ reverse (map pass_in l.workers.items) ≡ reverse (map pass_in l.fn.workers.items);
}
