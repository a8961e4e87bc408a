use Rattle.crawl.specs.Results.{TakesAll}
use Rattle.cli_tests.proofs.crawlers.FakeCrawler.end_late.Given as goal

abbrev pub invariant-loop-ending : goal.invariant-loop-ending
invariant-loop-ending g l = TakesAll (λ told. Unit {0}) g.R.Results.took l.fn.results l.results
