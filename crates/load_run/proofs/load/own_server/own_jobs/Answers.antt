use Rattle.std.proofs.Common.{◌≡◌, ◌+◌, [], ◌∷◌, length, subst, arith}
use Rattle.std.proofs.lemmas.List.{length-append}
use Rattle.load_run.specs.LoadJobs.{IsOwnJob}
use Rattle.load_run.proofs.OwnJobs.{own_jobs_more}
use Rattle.load_run.proofs.load.own_server.own_jobs.Goals as goal

pub loop-number-preserved : goal.loop-number-preserved
loop-number-preserved c =
    let flags = c.args.flags in
    let ports = c.args.ports.now in
    let jobs = c.loop-number.jobs.items in
    let job = c.in_ok-job.job in
    let next : c.loop-number.number ≡ 0 + length jobs = omega (arith, c.loop-number.invariant.count_is) in
    record {
      so_far = rw c.in_ok-push.ensures.items (own_jobs_more flags ports 0 jobs job c.loop-number.invariant.so_far (subst (λ n. IsOwnJob flags ports n job) next c.in_ok-job.ensures));
      count_is = rw c.in_ok-push.ensures.items (omega (arith, c.loop-number.invariant.count_is, length-append jobs (job ∷ [])));
    }
