use Rattle.std.specs.Prelude.{◌≡◌, ◌≤◌, sum_by}
use Rattle.exchange.specs.Dialling.{failed_turns}
use Rattle.exchange.specs.Worlds.{world_of}
use Rattle.transfer_slab.specs.Slabs.{AreKept, one_if_some}
use Rattle.run_loop.specs.Going.{rules_of, point, RunsOn}
use Rattle.run_loop.specs.Moments.{TakesTimed}
use Rattle.run_loop.proofs.run_loop.RunLoop.poll_due.Given as goal

abbrev pub decreases-loop-ended : goal.decreases-loop-ended
decreases-loop-ended g l = sum_by one_if_some l.slab.slots

abbrev pub invariant-loop-ended : goal.invariant-loop-ended
invariant-loop-ended g l = record {
  stays : g.C.Cache.home l.cache ≡ g.C.Cache.home l.fn.cache;
  kept : AreKept (world_of g.W.Wire.untouched g.W.Wire.happened (g.T.Clock.tells l.fn.timer)) (g.C.Cache.home l.cache) l.slab.slots;
  goes : RunsOn (rules_of g.C.Cache.did (world_of g.W.Wire.untouched g.W.Wire.happened (g.T.Clock.tells l.fn.timer)) (g.T.Timer.may_stop l.fn.timer) (g.J.Jobs.job_at l.fn._jobs) (TakesTimed (g.T.MicroClock.tells_micros l.fn.timer) g.R.Results.took))
      (point l.fn.cache (g.J.Jobs.drawn l.fn._jobs) l.fn.self.slab.slots l.fn.results) (point l.cache (g.J.Jobs.drawn l.fn._jobs) l.slab.slots l.results);
  fewer : sum_by one_if_some l.slab.slots ≤ sum_by one_if_some l.fn.self.slab.slots;
  turns : failed_turns g.D.Dial.shown l.dial ≡ failed_turns g.D.Dial.shown l.fn.dial;
}
