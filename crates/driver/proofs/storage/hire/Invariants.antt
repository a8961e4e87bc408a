use Rattle.std.proofs.Common.{◌≡◌, ◌+◌, ◌≤◌, length, take, vec_len, vec_capacity}
use Rattle.std.specs.List.{All, sum_by}
use Rattle.budget.specs.Words.{whole}
use Rattle.run_loop.specs.Draws.{first_seat}
use Rattle.shared_cache.specs.Passes.{IsPassOf, IsNewPass}
use Rattle.exchange.specs.Dialling.{failed_turns}
use Rattle.driver.specs.Hiring.{IsHired}
use Rattle.driver.specs.Turns.{failed_of}
use Rattle.driver.proofs.storage.hire.Given as goal

abbrev pub invariant-loop-dial : goal.invariant-loop-dial
invariant-loop-dial g l = record {
  passes_left : vec_len l.passes + l.dial-index ≡ length l.fn.dials;
  tasks_left : vec_len l.tasks + l.dial-index ≡ length l.fn.dials;
  passes : All (IsPassOf g.N.Names.names) l.passes.items;
  new_passes : All IsNewPass l.passes.items;
  hired : All (IsHired g.N.Names.names l.claim) l.workers.items;
  number : vec_len l.workers ≡ l.dial-index;
  room : length l.fn.dials ≤ vec_capacity l.workers;
  room_left : length l.fn.dials ≤ vec_capacity l.passes;
  seat : l.seat ≡ record (first_seat l.claim) { share = l.seat.share };
  share : l.seat.share + l.dial-index ≡ whole;
  turns : sum_by failed_of l.workers.items ≡ sum_by (failed_turns g.D.Dial.shown) (take l.dial-index l.fn.dials);
}
