use Rattle.std.proofs.Common.{◌∙◌, ap, sym, refl}
use Rattle.audit_stream.specs.declared.audit_output.AuditOutput.{AuditOutput}
use Rattle.audit_stream.specs.Reading.{goes_on}
use Rattle.audit_stream.specs.Runs.{told_by}
use Rattle.audit_stream.specs.Writing.{writes_of}
use Rattle.audit_stream.proofs.Pieces.{stopped, unbroken}
use Rattle.audit_stream.proofs.Readings.{reads-line, stops-line}
use Rattle.audit_stream.proofs.Writings.{writes-more}
use Rattle.audit_stream.proofs.reading.Run.read_complete.Goals as goal

pub loop-line-preserved : goal.loop-line-preserved
loop-line-preserved g c =
    let sink = g.W.Sink.sink in
    let same = c.in-Ok-true.ensures.same ∙ c.loop-line.invariant.same in
    record {
      reads = reads-line c.args.text.now c.loop-line.rest.now c.in-Some.line.now c.in-Some.others.now (told_by c.args.self.now) (told_by c.loop-line.self) (told_by c.read.new.self)
          c.loop-line.invariant.reads c.in-Some.ensures.line c.in-Ok-true.ensures.tells;
      goes = ap (λ (telling : AuditOutput). goes_on telling.all (told_by c.read.new.self)) (sym same) ∙ sym c.in-Ok-true.ensures.goes ∙ c.in-Ok-true.field-0-test;
      same = same;
      writes = writes-more (sink c.args.output.now) (sink c.loop-line.output) (sink c.read.new.output) 0 c.loop-line.invariant.writes c.in-Ok-true.ensures.writes.0;
    }

pub returns-in-Ok-false-clause-leaves : goal.returns-in-Ok-false-clause-leaves
returns-in-Ok-false-clause-leaves g c =
    let all = c.args.self.now.teller.telling.all in
    let same = c.in-Ok-false.ensures.same ∙ c.loop-line.invariant.same in
    let stops = stopped all c.read.new.self.teller.is_broken (ap (λ (telling : AuditOutput). goes_on telling.all (told_by c.read.new.self)) (sym same) ∙ sym c.in-Ok-false.ensures.goes ∙ c.in-Ok-false.field-0-test) in (
      stops.0,
      stops-line c.args.text.now c.loop-line.rest.now c.in-Some.line.now c.in-Some.others.now (told_by c.args.self.now) (told_by c.loop-line.self) (told_by c.read.new.self)
          c.loop-line.invariant.reads (unbroken all c.loop-line.self.teller.is_broken c.loop-line.invariant.goes stops.0) c.in-Some.ensures.line c.in-Ok-false.ensures.tells stops.1,
    )

pub returns-in-Ok-false-clause-writes : goal.returns-in-Ok-false-clause-writes
returns-in-Ok-false-clause-writes g c =
    let sink = g.W.Sink.sink in
    (writes-more (sink c.args.output.now) (sink c.loop-line.output) (sink c.read.new.output) 0 c.loop-line.invariant.writes c.in-Ok-false.ensures.writes.0, refl)

pub returns-in-Err-clause-writes : goal.returns-in-Err-clause-writes
returns-in-Err-clause-writes g c =
    let sink = g.W.Sink.sink in
    (writes-more (sink c.args.output.now) (sink c.loop-line.output) (sink c.read.new.output) (writes_of c.in-Err.stop) c.loop-line.invariant.writes c.in-Err.ensures.writes.0, c.in-Err.ensures.writes.1)
