use Rattle.std.proofs.Common.{◌∙◌}
use Rattle.streams.proofs.Streaming.{put-more}
use Rattle.streams.proofs.sink.FailureCountedSink.put.Goals as goal

pub loop-rest-preserved : goal.loop-rest-preserved
loop-rest-preserved g c =
    let contents = g.W.Write.contents in
    record {
      put = rw c.split_at.ensures.back (put-more (contents c.args.self.now.stream) (contents c.loop-rest.self.stream) (contents c.write.new.self.stream)
          c.args.bytes.now c.loop-rest.rest.now c.in-Ok.count c.loop-rest.invariant.put c.in-Ok.ensures.bytes);
      unfailed = c.in-Ok.ensures.failures ∙ c.loop-rest.invariant.unfailed;
    }
