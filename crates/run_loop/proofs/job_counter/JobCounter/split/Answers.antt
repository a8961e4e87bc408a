use Rattle.std.proofs.Common.{rules}
use Rattle.run_loop.proofs.DrawSteps.{splits}
use Rattle.run_loop.proofs.job_counter.JobCounter.split.Goals as goal

pub split_seat-seat-requires : goal.split_seat-seat-requires
split_seat-seat-requires c = (search rules, search rules, splits _ _ _ (search rules) (search rules))
