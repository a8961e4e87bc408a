use Rattle.std.specs.Prelude.{◌≡◌, ◌++◌, length}
use Rattle.crawl.specs.Batches.{KeepsOthers}
use Rattle.crawl.proofs.queue.Queue.put_back.Given as goal

abbrev pub decreases-loop-one : goal.decreases-loop-one
decreases-loop-one l = length l.waiting.items

abbrev pub invariant-loop-one : goal.invariant-loop-one
invariant-loop-one l = record {
  back : l.waiting.items ++ l.self.queued.items ≡ l.fn.waiting.items ++ l.fn.self.queued.items;
  same : KeepsOthers l.fn.self l.self;
}
