use Rattle.std.proofs.Common.{◌≡◌, length}
use Rattle.streams.proofs.Streaming.{PutSoFar}
use Rattle.streams.proofs.sink.FailureCountedSink.put.Given as goal

abbrev pub invariant-loop-rest : goal.invariant-loop-rest
invariant-loop-rest g l =
    let contents = g.W.Write.contents in
    record {
      put : PutSoFar (contents l.fn.self.stream) (contents l.self.stream) l.bytes l.rest;
      unfailed : l.self.failures ≡ l.fn.self.failures;
    }

abbrev pub decreases-loop-rest : goal.decreases-loop-rest
decreases-loop-rest g l = length l.rest
