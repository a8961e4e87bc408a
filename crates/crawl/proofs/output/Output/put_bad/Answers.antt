-- The line of a bad URL is written, if there was memory for it.
use Rattle.crawl.specs.Written.{output_shown}
use Rattle.crawl.proofs.Lines.{bad_written}
use Rattle.crawl.proofs.output.Output.put_bad.Goals as goal

pub returns : goal.returns
returns g c =
    let was = c.args.self.now in
    let now = c.write.new.self in
    record {
      writes = bad_written c.bad_line-line.result c.args.url.now (output_shown was.progress.now (g.W.Sink.sink was.output.now) was.output.ghost_name) (output_shown now.progress.now (g.W.Sink.sink now.output.now) now.output.ghost_name)
          c.requires.whole c.write.ensures.puts c.write.ensures.counts c.write.ensures.flags c.write.ensures.in_flight c.write.ensures.name;
    }
