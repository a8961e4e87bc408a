-- URLs are read one after another.
use Rattle.std.proofs.Common.{refl, ◌∙◌}
use Rattle.crawl.specs.Reading.{queue_shown}
use Rattle.crawl.proofs.Queues.{reads_none, reads_then}
use Rattle.crawl.proofs.queue.Queue.read_ahead.Goals as goal

pub loop-init : goal.loop-init
loop-init g c = record {
  counts = c.requires.counts;
  reads = reads_none (queue_shown c.args.self.now) (queue_shown c.args.self.now) (g.R.Source.source c.args.input.now).bytes refl;
  hosts = record { table = refl; in_use = refl };
}

pub returns-then-not-branch-clause-reads : goal.returns-then-not-branch-clause-reads
returns-then-not-branch-clause-reads g c =
    reads_then (queue_shown c.args.self.now) (queue_shown c.loop.self) (queue_shown c.read_one.new.self) (g.R.Source.source c.args.input.now).bytes (g.R.Source.source c.loop.input).bytes
    (g.R.Source.source c.read_one.new.input).bytes c.loop.invariant.reads c.in_ok-read_one.ensures.reads

pub loop-preserved : goal.loop-preserved
loop-preserved g c = record {
  counts = c.in_ok-read_one.ensures.counts_on;
  reads = reads_then (queue_shown c.args.self.now) (queue_shown c.loop.self) (queue_shown c.read_one.new.self) (g.R.Source.source c.args.input.now).bytes (g.R.Source.source c.loop.input).bytes
      (g.R.Source.source c.read_one.new.input).bytes c.loop.invariant.reads c.in_ok-read_one.ensures.reads;
  hosts = record { table = c.read_one.ensures.hosts.table ∙ c.loop.invariant.hosts.table; in_use = c.read_one.ensures.hosts.in_use ∙ c.loop.invariant.hosts.in_use };
}
