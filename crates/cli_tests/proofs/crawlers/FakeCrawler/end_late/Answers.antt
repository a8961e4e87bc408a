-- One late transfer after another ends.
use Rattle.cli_tests.proofs.Takes.{takes_more, takes_none, takes_one}
use Rattle.cli_tests.proofs.crawlers.FakeCrawler.end_late.Goals as goal

pub loop-ending-init : goal.loop-ending-init
loop-ending-init g c = takes_none g.R.Results.took c.args.results.now

pub loop-ending-preserved : goal.loop-ending-preserved
loop-ending-preserved g c = takes_more g.R.Results.took c.args.results.now c.loop-ending.results c.take.new.self c.loop-ending.invariant (takes_one g.R.Results.took _ _ _ _ _ c.take.ensures)
