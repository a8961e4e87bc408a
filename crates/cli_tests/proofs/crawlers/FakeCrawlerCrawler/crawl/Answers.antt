-- Takes the results of the jobs in order, and then the late results.
use Rattle.cli_tests.proofs.Takes.{takes_more, takes_none}
use Rattle.cli_tests.proofs.crawlers.FakeCrawlerCrawler.crawl.Goals as goal

pub loop-place-init : goal.loop-place-init
loop-place-init g c = takes_none g.R.Results.took c.args.results.now

pub loop-place-preserved : goal.loop-place-preserved
loop-place-preserved g c = takes_more g.R.Results.took c.args.results.now c.loop-place.results c.fetch.new.results c.loop-place.invariant c.fetch.ensures

pub returns-then-is_empty-clause-takes : goal.returns-then-is_empty-clause-takes
returns-then-is_empty-clause-takes g c = takes_more g.R.Results.took c.args.results.now c.loop-place.results c.end_late.new.results c.loop-place.invariant c.end_late.ensures
