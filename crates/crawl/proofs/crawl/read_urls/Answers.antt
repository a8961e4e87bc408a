-- URLs are read, and the lines of bad ones are written.
use Rattle.crawl.specs.Reading.{queue_shown}
use Rattle.crawl.specs.Written.{output_shown}
use Rattle.crawl.proofs.Positions.{at_reads, at_same}
use Rattle.crawl.proofs.crawl.read_urls.Goals as goal

pub returns-clause-reads : goal.returns-clause-reads
returns-clause-reads g c = λ crawl jobs results first at. (
    let was = c.args.output.now in
    let now = output_shown was.progress.now (g.W.Sink.sink was.output.now) was.output.ghost_name in
    let before = (g.R.Source.source c.args.input.now).bytes in
    let after = (g.R.Source.source c.read_ahead.new.input).bytes in
    let learned = at_same crawl jobs results first before (queue_shown c.args.queue.now) (queue_shown c.learn.new.self) now c.learn.ensures.same at in
    c.put_bad_urls.ensures.puts crawl jobs results first after (at_reads crawl jobs results first before after (queue_shown c.learn.new.self) (queue_shown c.read_ahead.new.self) now learned c.in-Ok-read_ahead.ensures.reads))
