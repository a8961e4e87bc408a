-- Each site belongs to a job, each job has a site, or the host of a job is unknown.
use Rattle.std.proofs.Common.{rules, ◌≡◌, ◌<◌, ◌+◌, ◌∙◌, ap, arith, drop, length, max, refl, subst, sym}
use Rattle.std.proofs.lemmas.List.{length-append}
use Rattle.commands.specs.Numbering.{AreNumbered}
use Rattle.load_run.proofs.SitePlaces.{below_more, numbered_next, sites_more}
use Rattle.load_run.proofs.UnknownSites.{unknown_in}
use Rattle.load_run.proofs.load.sites.LoadSites.of.Goals as goal

pub returns-in-Err-clause-unknown : goal.returns-in-Err-clause-unknown
returns-in-Err-clause-unknown c = unknown_in c.args.jobs.now c.loop-job.job-index c.job-item.result c.args.resolved.now c.in-Err.fault c.loop-job-test.true c.job-item.is c.in-Err.ensures.unknown

pub loop-job-preserved-then-job-count : goal.loop-job-preserved-then-job-count
loop-job-preserved-then-job-count c =
    let jobs = c.args.jobs.now in
    let k = c.loop-job.job-index in
    let job = c.job-item.result in
    let count = c.loop-job.count in
    let next = numbered_next jobs k job count c.loop-job-test.true c.job-item.is c.loop-job.invariant.numbered in
    let least : job.site < count = omega (arith, next.0, c.if-job-count.true) in
    let same : max count (job.site + 1) ≡ count = omega (arith, least) in
    record {
      are = c.loop-job.invariant.are;
      counted = c.loop-job.invariant.counted;
      below = below_more jobs k job count count c.loop-job-test.true c.job-item.is c.loop-job.invariant.below (omega arith) least;
      numbered = subst (λ n. AreNumbered n (drop (k + 1) jobs)) same next.1;
    }

pub loop-job-preserved : goal.loop-job-preserved
loop-job-preserved c =
    let jobs = c.args.jobs.now in
    let k = c.loop-job.job-index in
    let job = c.job-item.result in
    let count = c.loop-job.count in
    let more = c.in-Some.more in
    let sites = c.loop-job.sites.items in
    let is : job.site ≡ count = omega (arith, c.if-job-count.false) in
    let one : more ≡ count + 1 = search rules in
    let next = numbered_next jobs k job count c.loop-job-test.true c.job-item.is c.loop-job.invariant.numbered in
    let same : max count (job.site + 1) ≡ more = omega (arith, is, one) in
    record {
      are = rw c.in-Ok-push.ensures.items (sites_more jobs c.args.resolved.now 0 sites _ c.loop-job.invariant.are (record {
        job = job;
        among = (k, c.loop-job-test.true, sym c.job-item.is);
        index_is = omega (arith, is, c.loop-job.invariant.counted);
        target_is = refl;
        place_is = c.in-Ok.ensures.place;
      }));
      counted = omega (arith, one, c.loop-job.invariant.counted, ap length c.in-Ok-push.ensures.items ∙ length-append sites _);
      below = below_more jobs k job count more c.loop-job-test.true c.job-item.is c.loop-job.invariant.below (omega (arith, one)) (omega (arith, is, one));
      numbered = subst (λ n. AreNumbered n (drop (k + 1) jobs)) same next.1;
    }
