use Rattle.std.specs.Prelude.{◌≡◌, length}
use Rattle.client.specs.FileLines.{lines_shown}
use Rattle.crawl.specs.Hosts.{AreInUse, KeepsInUse}
use Rattle.crawl.proofs.Queues.{IsBatch}
use Rattle.crawl.proofs.queue.Queue.batch.Given as goal

abbrev pub decreases-loop-one : goal.decreases-loop-one
decreases-loop-one g l = length l.self.queued.items

abbrev pub invariant-loop-one : goal.invariant-loop-one
invariant-loop-one g l = record {
  can_go_on : g.C.Crawler.can_go_on l.crawler;
  is : IsBatch l.fn.self.options l.fn.self.queued.items l.free l.fn.self.number l.batch l.self.queued.items l.self.number;
  options : l.self.options ≡ l.fn.self.options;
  file : l.self.file ≡ l.fn.self.file;
  urls : l.self.urls.items ≡ l.fn.self.urls.items;
  stop : l.self.stop ≡ l.fn.self.stop;
  lines : lines_shown l.self.lines ≡ lines_shown l.fn.self.lines;
  keeps : KeepsInUse l.fn.self.hosts.table l.self.hosts.table l.fn.self.hosts.in_use.items l.self.hosts.in_use.items;
  in_use : AreInUse l.self.hosts.in_use.items l.batch.transfers.items;
}
