-- Nothing is in flight in a crawler that was made.
use Rattle.crawl.proofs.Alone.{none_begun}
use Rattle.crawl.proofs.loop_crawler.LoopCrawler.new.Goals as goal

pub returns : goal.returns
returns g c = record { can_go_on = none_begun _ _ _ _ _ _ c.in_ok-run.ensures.empty c.in_ok-run.ensures.fresh }
