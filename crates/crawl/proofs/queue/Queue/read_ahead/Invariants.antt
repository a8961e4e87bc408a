use Rattle.std.specs.Prelude.{◌≡◌, None}
use Rattle.streams.specs.Streams.{CanCount}
use Rattle.crawl.specs.Reading.{Reads, queue_shown}
use Rattle.crawl.specs.Batches.{KeepsHosts}
use Rattle.crawl.proofs.queue.Queue.read_ahead.Given as goal

abbrev pub invariant-loop : goal.invariant-loop
invariant-loop g l = record {
  counts : l.self.stop ≡ None → CanCount (g.R.Source.source l.input);
  reads : Reads (queue_shown l.fn.self) (queue_shown l.self) (g.R.Source.source l.fn.input).bytes (g.R.Source.source l.input).bytes;
  hosts : KeepsHosts l.fn.self l.self;
}
