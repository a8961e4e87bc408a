use Rattle.std.proofs.Common.{◌≡◌, ◌+◌, ◌≤◌, [], length, vec_len, vec_capacity}
use Rattle.std.specs.List.{All}
use Rattle.exchange.specs.Dialling.{failed_turns}
use Rattle.budget.specs.Words.{whole}
use Rattle.run_loop.specs.Draws.{first_seat}
use Rattle.shared_cache.specs.Passes.{IsPassOf, IsNewPass}
use Rattle.driver.specs.ManyWork.{IsHiredLoop}
use Rattle.driver.proofs.ManyWork.{IsHiring}
use Rattle.driver.proofs.many.storage.hire_all.Given as goal

abbrev pub decreases-loop-own : goal.decreases-loop-own
decreases-loop-own g l = length l.tools.items

abbrev pub invariant-loop-own : goal.invariant-loop-own
invariant-loop-own g l = record {
  loops_left : vec_len l.loops ≡ vec_len l.tools;
  passes_left : vec_len l.passes ≡ vec_len l.tools;
  empty : All (λ it. it.slab.slots ≡ []) l.loops.items;
  passes : All (IsPassOf g.N.Names.names) l.passes.items;
  new_passes : All IsNewPass l.passes.items;
  hired : All (IsHiredLoop g.N.Names.names l.claim) l.workers.items;
  begun : IsHiring (failed_turns g.D.Dial.shown) l.fn.tools.items l.tools.items l.workers.items;
  number : vec_len l.workers + vec_len l.tools ≡ vec_len l.fn.tools;
  room : vec_len l.fn.tools ≤ vec_capacity l.workers;
  seat : l.seat ≡ record (first_seat l.claim) { share = l.seat.share };
  share : l.seat.share + vec_len l.workers ≡ whole;
}
