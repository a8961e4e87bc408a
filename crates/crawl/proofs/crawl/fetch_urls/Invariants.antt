use Rattle.std.specs.Prelude.{◌≡◌, [], None}
use Rattle.streams.specs.Streams.{CanCount, Stream}
use Rattle.crawl.specs.Crawling.{CrawlGiven, IsAt}
use Rattle.crawl.specs.Reading.{queue_shown}
use Rattle.crawl.specs.Written.{output_shown}
use Rattle.crawl.proofs.Finished.{IsFetching}
use Rattle.crawl.proofs.crawl.fetch_urls.Given as goal

abbrev pub invariant-loop : goal.invariant-loop
invariant-loop g l = record {
  counts : l.queue.stop ≡ None → CanCount (g.R.Source.source l.input);
  can_go_on : g.C.Crawler.can_go_on l.crawler;
  same : l.output.output.ghost_name ≡ l.fn.output.output.ghost_name;
  at : (crawl : CrawlGiven) (first : Stream)
      → IsAt crawl [] [] first (g.R.Source.source l.fn.input).bytes (queue_shown l.fn.queue) (output_shown l.fn.output.progress.now (g.W.Sink.sink l.fn.output.output.now) l.fn.output.output.ghost_name)
      → IsFetching g.C.Crawler.crawled crawl first (g.R.Source.source l.input).bytes (queue_shown l.queue) (output_shown l.output.progress.now (g.W.Sink.sink l.output.output.now) l.output.output.ghost_name);
}
