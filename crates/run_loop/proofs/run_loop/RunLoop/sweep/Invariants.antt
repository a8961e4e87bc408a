use Rattle.std.specs.Prelude.{◌≡◌}
use Rattle.exchange.specs.Dialling.{failed_turns}
use Rattle.exchange.specs.Worlds.{world_of}
use Rattle.transfer_slab.specs.Slabs.{AreKept}
use Rattle.run_loop.specs.Going.{rules_of, point, RunsOn}
use Rattle.run_loop.specs.Moments.{AreReadings, TakesTimed}
use Rattle.run_loop.proofs.run_loop.RunLoop.sweep.Given as goal

abbrev pub invariant-loop-place : goal.invariant-loop-place
invariant-loop-place g l = record {
  stays : g.C.Cache.home l.cache ≡ g.C.Cache.home l.fn.cache;
  kept : AreKept (world_of g.W.Wire.untouched g.W.Wire.happened (g.T.Clock.tells l.fn.timer)) (g.C.Cache.home l.cache) l.self.slab.slots;
  readings : AreReadings (g.T.MicroClock.tells_micros l.fn.timer) l.self.begins.moments.items;
  goes : RunsOn (rules_of g.C.Cache.did (world_of g.W.Wire.untouched g.W.Wire.happened (g.T.Clock.tells l.fn.timer)) (g.T.Timer.may_stop l.fn.timer) (g.J.Jobs.job_at l.fn._jobs) (TakesTimed (g.T.MicroClock.tells_micros l.fn.timer) g.R.Results.took))
      (point l.fn.cache (g.J.Jobs.drawn l.fn._jobs) l.fn.self.slab.slots l.fn.results) (point l.cache (g.J.Jobs.drawn l.fn._jobs) l.self.slab.slots l.results);
  turns : failed_turns g.D.Dial.shown l.dial ≡ failed_turns g.D.Dial.shown l.fn.dial;
}
