-- Part of a run takes results and keeps the invariant of the transfers in flight.
use Rattle.std.proofs.Common.{refl, ap}
use Rattle.exchange.specs.Worlds.{world_of}
use Rattle.crawl.specs.Results.{first_number, job_of, numbers_from}
use Rattle.crawl.proofs.Alone.{jobs_by_number, none_alone, takes_alone}
use Rattle.crawl.proofs.loop_crawler.LoopCrawlerCrawler.crawl.Goals as goal

pub returns-in_default-clause-takes : goal.returns-in_default-clause-takes
returns-in_default-clause-takes g c =
    let was = c.args.self.now in
    let jobs = c.args.jobs.now in
    none_alone g.K.Cache.did (world_of g.W.Wire.untouched g.W.Wire.happened (g.C.Clock.tells was.clock)) (g.C.MicroClock.tells_micros was.clock) g.R.Results.took (job_of jobs (first_number jobs) was.no_job) was.no_job jobs refl
    was.cache was.run.slab.slots c.args.results.now

pub returns-clause-takes : goal.returns-clause-takes
returns-clause-takes g c =
    let was = c.args.self.now in
    let jobs = c.args.jobs.now in
    let drawn = c.in-Some.drawn in
    let ran = c.run_on-end.new in
    let given = c.in-Some.ensures in
    takes_alone g.K.Cache.did (world_of g.W.Wire.untouched g.W.Wire.happened (g.C.Clock.tells was.clock)) (g.C.MicroClock.tells_micros was.clock) g.R.Results.took _ was.no_job jobs
    (jobs_by_number drawn.jobs.now jobs drawn.first drawn.other.now was.no_job given.jobs given.first given.other)
    was.cache ran.cache was.run.slab.slots ran.self.slab.slots c.args.results.now ran.results (numbers_from drawn.first drawn.drawn) (numbers_from ran.jobs.first ran.jobs.drawn) (ap (numbers_from drawn.first) given.none) c.run_on-end.ensures.goes
