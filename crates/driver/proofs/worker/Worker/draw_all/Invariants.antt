use Rattle.std.specs.Prelude.{◌≡◌, ◌+◌, ◌≤◌, length, None}
use Rattle.exchange.specs.Worlds.{world_of}
use Rattle.run_loop.specs.Running.{numbers_of}
use Rattle.driver.specs.Results.{RunsInTurn}
use Rattle.driver.specs.Workers.{AreResults}
use Rattle.driver.proofs.worker.Worker.draw_all.Given as goal

abbrev pub invariant-loop : goal.invariant-loop
invariant-loop g l = record {
  home : g.C.Cache.home l.cache ≡ g.C.Cache.home l.fn.cache;
  carried : RunsInTurn g.C.Cache.did (world_of g.W.Wire.untouched g.W.Wire.happened (g.K.Clock.tells l.fn.shared.clock.now)) (g.G.Gate.may_stop l.fn.shared.gate.now) l.fn.shared.jobs.now l.fn.cache l.cache l.self.results;
  claim : l.self.seat.claim ≡ l.fn.self.seat.claim;
  share : l.self.seat.share ≡ l.fn.self.seat.share;
  not_past : l.self.seat.past ≡ 0;
  drawn : l.self.seat.drawn ≡ numbers_of l.self.results;
  results : AreResults (world_of g.W.Wire.untouched g.W.Wire.happened (g.K.Clock.tells l.fn.shared.clock.now)) (g.G.Gate.may_stop l.fn.shared.gate.now) l.fn.shared.jobs.now l.self.results;
  well : l.self.quit ≡ None;
  opens : l.self.opened ≤ l.fn.self.opened + length l.self.results;
  turns : l.self.failed ≡ l.fn.self.failed;
  pass : l.self.pass ≡ l.fn.self.pass;
}
