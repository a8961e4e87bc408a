use Rattle.std.proofs.Common.{◌≡◌, ◌+◌, ◌≤◌, ℕ, List, length, vec_len, vec_capacity}
use Rattle.exchange.specs.Dialling.{failed_turns}
use Rattle.budget.specs.Words.{whole}
use Rattle.exchange.specs.Worlds.{world_of}
use Rattle.run_loop.specs.Moments.{TakesTimed}
use Rattle.driver.specs.ManyWork.{HaveLooped, HavePasses}
use Rattle.driver.proofs.Gathered.{IsGathered}
use Rattle.driver.proofs.many.gathering.gather_work.Given as goal

abbrev pub decreases-loop-worker : goal.decreases-loop-worker
decreases-loop-worker g l = length l.workers.items

abbrev pub invariant-loop-worker : goal.invariant-loop-worker
invariant-loop-worker g l = record {
  gathered : (begun : List (g.row.F.Denot × ℕ)) → HaveLooped (world_of g.W.Wire.untouched g.W.Wire.happened (g.T.Clock.tells l.common.timer.now)) (g.T.Timer.may_stop l.common.timer.now) g.N.Names.names (g.S.JobSource.job_at l.common.source.now) (TakesTimed (g.T.MicroClock.tells_micros l.common.timer.now) g.F.Results.took) l.common.claim.now begun l.fn.workers.items
      → IsGathered (world_of g.W.Wire.untouched g.W.Wire.happened (g.T.Clock.tells l.common.timer.now)) (g.T.Timer.may_stop l.common.timer.now) g.N.Names.names (g.S.JobSource.job_at l.common.source.now) (TakesTimed (g.T.MicroClock.tells_micros l.common.timer.now) g.F.Results.took) (failed_turns g.D.Dial.shown) l.common.claim.now begun l.seat l.workers.items l.finished.items l.end;
  passes : HavePasses g.N.Names.names l.finished.items;
  at : l.seat.claim ≡ l.common.claim.now;
  share : l.seat.share + vec_len l.workers ≡ whole;
  room : vec_len l.fn.workers ≤ vec_capacity l.finished;
  count : vec_len l.finished + vec_len l.workers ≡ vec_len l.fn.workers;
}
