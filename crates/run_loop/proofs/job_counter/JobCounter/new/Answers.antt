use Rattle.run_loop.proofs.DrawSteps.{begins}
use Rattle.run_loop.proofs.job_counter.JobCounter.new.Goals as goal

pub of_words-requires : goal.of_words-requires
of_words-requires c = begins _
