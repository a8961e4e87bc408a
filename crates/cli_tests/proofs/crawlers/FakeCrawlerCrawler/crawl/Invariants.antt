use Rattle.crawl.specs.Results.{TakesAll}
use Rattle.cli_tests.proofs.crawlers.FakeCrawlerCrawler.crawl.Given as goal

abbrev pub invariant-loop-place : goal.invariant-loop-place
invariant-loop-place g l = TakesAll (λ told. Unit {0}) g.R.Results.took l.fn.results l.results
