use Rattle.cli_tests.proofs.Takes.{takes_one}
use Rattle.cli_tests.proofs.crawlers.FakeCrawler.fetch.Goals as goal

pub returns : goal.returns
returns g c = takes_one g.R.Results.took c.args.results.now c.take.new.self _ _ _ c.take.ensures
