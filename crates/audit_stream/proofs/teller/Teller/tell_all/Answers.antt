use Rattle.std.proofs.Common.{◌∙◌}
use Rattle.audit_stream.specs.Writing.{writes_of}
use Rattle.audit_stream.proofs.Writings.{writes-more}
use Rattle.audit_stream.proofs.teller.Teller.tell_all.Goals as goal

pub returns-in-Err-clause-writes : goal.returns-in-Err-clause-writes
returns-in-Err-clause-writes g c =
    let sink = g.W.Sink.sink in
    (writes-more (sink c.args.output.now) (sink c.loop-finding.output) (sink c.tell_one.new.output) (writes_of c.in-Err.stop) c.loop-finding.invariant.writes c.in-Err.ensures.writes.0, c.in-Err.ensures.writes.1)

pub loop-finding-preserved : goal.loop-finding-preserved
loop-finding-preserved g c =
    let sink = g.W.Sink.sink in
    record {
      same = c.in-Ok.ensures.same ∙ c.loop-finding.invariant.same;
      broken = c.in-Ok.ensures.broken ∙ c.loop-finding.invariant.broken;
      writes = writes-more (sink c.args.output.now) (sink c.loop-finding.output) (sink c.tell_one.new.output) 0 c.loop-finding.invariant.writes c.in-Ok.ensures.writes.0;
    }
