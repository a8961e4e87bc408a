use Rattle.std.proofs.Common.{◌≡◌, ◌+◌, ◌≤◌, length, vec_len, vec_capacity}
use Rattle.exchange.specs.Dialling.{failed_turns}
use Rattle.exchange.specs.Worlds.{world_of}
use Rattle.driver.proofs.Collected.{IsGoing}
use Rattle.driver.proofs.Turned.{HaveQuit, DialsLeft}
use Rattle.driver.proofs.collecting.collect.Given as goal

abbrev pub decreases-loop-worker : goal.decreases-loop-worker
decreases-loop-worker g l = length l.workers.items

abbrev pub invariant-loop-worker : goal.invariant-loop-worker
invariant-loop-worker g l = record {
  going : IsGoing (world_of g.W.Wire.untouched g.W.Wire.happened (g.K.Clock.tells l.shared.clock.now)) (g.G.Gate.may_stop l.shared.gate.now) g.N.Names.names l.shared.jobs.now l.shared.claim.now (vec_len l.fn.workers) l.seat l.workers.items l.results.items l.passes.items l.quit;
  room : vec_len l.fn.workers ≤ vec_capacity l.passes;
  count : vec_len l.passes + vec_len l.workers ≡ vec_len l.fn.workers;
  quits : HaveQuit l.fn.workers.items l.workers.items l.quit;
  dials : DialsLeft (failed_turns g.D.Dial.shown) l.fn.workers.items l.workers.items;
}
