use Rattle.std.specs.Prelude.{◌≡◌, ℕ, List, Option, length}
use Rattle.exchange.specs.declared.job.Job.{Job}
use Rattle.run_loop.specs.Taking.{JobResult}
use Rattle.streams.specs.Streams.{Stream}
use Rattle.crawl.specs.Crawling.{CrawlGiven, IsAt}
use Rattle.crawl.specs.Reading.{queue_shown}
use Rattle.crawl.specs.Written.{output_shown}
use Rattle.crawl.proofs.crawl.put_bad_urls.Given as goal

abbrev pub decreases-loop-url : goal.decreases-loop-url
decreases-loop-url g l = length l.queue.queued.items

abbrev pub invariant-loop-url : goal.invariant-loop-url
invariant-loop-url g l = record {
  same : l.output.output.ghost_name ≡ l.fn.output.output.ghost_name;
  stop : l.queue.stop ≡ l.fn.queue.stop;
  in_flight : l.output.progress.now.in_flight.items ≡ l.fn.output.progress.now.in_flight.items;
  at : (crawl : CrawlGiven) (jobs : List Job) (results : List JobResult) (first : Stream) (source : Option (List ℕ))
      → IsAt crawl jobs results first source (queue_shown l.fn.queue) (output_shown l.fn.output.progress.now (g.W.Sink.sink l.fn.output.output.now) l.fn.output.output.ghost_name)
      → IsAt crawl jobs results first source (queue_shown l.queue) (output_shown l.output.progress.now (g.W.Sink.sink l.output.output.now) l.output.output.ghost_name);
}
