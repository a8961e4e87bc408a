use Rattle.std.proofs.Common.{rules}
use Rattle.run_loop.proofs.DrawSteps.{joins}
use Rattle.run_loop.proofs.job_counter.JobCounter.join.Goals as goal

pub join_seat-requires : goal.join_seat-requires
join_seat-requires c = (search rules, search rules, c.other.invariant.bare, search rules, joins _ _ _ _ _ c.seat.invariant.some_share)
