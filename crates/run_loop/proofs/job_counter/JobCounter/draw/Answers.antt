use Rattle.std.proofs.Common.{rules}
use Rattle.run_loop.proofs.DrawSteps.{draws}
use Rattle.run_loop.proofs.job_counter.JobCounter.draw.Goals as goal

pub fetch_add-number-requires : goal.fetch_add-number-requires
fetch_add-number-requires c = (search rules, search rules, draws _ _ _ _ c.self.invariant.fits c.seat.invariant.some_share (search rules))
