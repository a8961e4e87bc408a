use Rattle.std.specs.Prelude.{◌≡◌}
use Rattle.exchange.specs.Dialling.{failed_turns}
use Rattle.exchange.specs.Worlds.{world_of}
use Rattle.transfer_slab.specs.Slabs.{AreKept}
use Rattle.run_loop.specs.Going.{rules_of, point, RunsOn}
use Rattle.run_loop.specs.Moments.{AreReadings, TakesTimed}
use Rattle.run_loop.specs.Steps.{IfNever}
use Rattle.run_loop.proofs.run_loop.RunLoop.run_on.Given as goal

abbrev pub invariant-loop : goal.invariant-loop
invariant-loop g l = record {
  stays : g.C.Cache.home l.cache ≡ g.C.Cache.home l.fn.cache;
  kept : AreKept (world_of g.W.Wire.untouched g.W.Wire.happened (g.T.Clock.tells l.fn.timer)) (g.C.Cache.home l.cache) l.self.slab.slots;
  readings : AreReadings (g.T.MicroClock.tells_micros l.fn.timer) l.self.begins.moments.items;
  goes : RunsOn (rules_of g.C.Cache.did (world_of g.W.Wire.untouched g.W.Wire.happened (g.T.Clock.tells l.fn.timer)) (g.T.Timer.may_stop l.fn.timer) (g.J.Jobs.job_at l.fn.jobs) (TakesTimed (g.T.MicroClock.tells_micros l.fn.timer) g.R.Results.took))
      (point l.fn.cache (g.J.Jobs.drawn l.fn.jobs) l.fn.self.slab.slots l.fn.results) (point l.cache (g.J.Jobs.drawn l.jobs) l.self.slab.slots l.results);
  jobs : g.J.Jobs.job_at l.jobs ≡ g.J.Jobs.job_at l.fn.jobs;
  fixed : g.J.Jobs.kept l.jobs ≡ g.J.Jobs.kept l.fn.jobs;
  over : IfNever l.next (g.J.Jobs.is_over l.jobs);
  turns : failed_turns g.D.Dial.shown l.dial ≡ failed_turns g.D.Dial.shown l.fn.dial;
}
