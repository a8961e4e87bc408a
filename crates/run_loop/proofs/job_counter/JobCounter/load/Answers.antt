use Rattle.std.proofs.Common.{rules}
use Rattle.run_loop.proofs.DrawSteps.{reads_all}
use Rattle.run_loop.proofs.job_counter.JobCounter.load.Goals as goal

pub load-word-requires : goal.load-word-requires
load-word-requires c = (search rules, search rules, reads_all _ _ _ _ (search rules))
