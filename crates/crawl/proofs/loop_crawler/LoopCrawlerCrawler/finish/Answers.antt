-- The end of a run takes results.
use Rattle.std.proofs.Common.{[], ap}
use Rattle.exchange.specs.Worlds.{world_of}
use Rattle.crawl.specs.Results.{numbers_from}
use Rattle.crawl.proofs.Alone.{ends_alone, jobs_by_number}
use Rattle.crawl.proofs.loop_crawler.LoopCrawlerCrawler.finish.Goals as goal

pub returns : goal.returns
returns g c =
    let was = c.args.self in
    let drawn = c.none-drawn.result in
    let ran = c.finish-end.new in
    let given = c.none-drawn.ensures in
    ends_alone g.K.Cache.did (world_of g.W.Wire.untouched g.W.Wire.happened (g.C.Clock.tells was.clock)) (g.C.MicroClock.tells_micros was.clock) g.R.Results.took _ was.no_job []
    (jobs_by_number drawn.jobs.now [] drawn.first drawn.other.now was.no_job given.jobs given.first given.other)
    c.finish-end.result was.cache ran.cache was.run.slab.slots c.args.results.now ran.results (numbers_from drawn.first drawn.drawn) (numbers_from ran.jobs.first ran.jobs.drawn) (ap (numbers_from drawn.first) given.none) c.finish-end.ensures.ends
