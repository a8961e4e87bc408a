use Rattle.std.proofs.Common.{◌∙◌, ap, sym, refl, inr, inl, arith}
use Rattle.std.proofs.lemmas.Bool.Decides.{nat_tests}
use Rattle.audit_stream.specs.declared.audit_output.AuditOutput.{AuditOutput}
use Rattle.audit_stream.specs.Reading.{goes_on}
use Rattle.audit_stream.specs.Runs.{told_by}
use Rattle.audit_stream.specs.Writing.{writes_of}
use Rattle.audit_stream.proofs.Pieces.{stopped, unbroken}
use Rattle.audit_stream.proofs.Readings.{last-all, last-line, last-stops}
use Rattle.audit_stream.proofs.Writings.{writes-more}
use Rattle.audit_stream.proofs.reading.Run.read_last.Goals as goal

pub loop-rest-preserved : goal.loop-rest-preserved
loop-rest-preserved g c =
    let sink = g.W.Sink.sink in
    let same = c.in-Ok-true.ensures.same ∙ c.loop-rest.invariant.same in
    record {
      reads = last-line c.args.text.now c.loop-rest.rest.now c.first_line.result.0.now c.first_line.result.1.now (told_by c.args.self.now) (told_by c.loop-rest.self) (told_by c.read.new.self)
          c.loop-rest.invariant.reads c.first_line.ensures.first c.in-Ok-true.ensures.tells;
      goes = ap (λ (telling : AuditOutput). goes_on telling.all (told_by c.read.new.self)) (sym same) ∙ sym c.in-Ok-true.ensures.goes ∙ c.in-Ok-true.field-0-test;
      same = same;
      writes = writes-more (sink c.args.output.now) (sink c.loop-rest.output) (sink c.read.new.output) 0 c.loop-rest.invariant.writes c.in-Ok-true.ensures.writes.0;
    }

pub returns-in-Ok-false-clause-ends : goal.returns-in-Ok-false-clause-ends
returns-in-Ok-false-clause-ends g c =
    let all = c.args.self.now.teller.telling.all in
    let same = c.in-Ok-false.ensures.same ∙ c.loop-rest.invariant.same in
    let stops = stopped all c.read.new.self.teller.is_broken (ap (λ (telling : AuditOutput). goes_on telling.all (told_by c.read.new.self)) (sym same) ∙ sym c.in-Ok-false.ensures.goes ∙ c.in-Ok-false.field-0-test) in
    inr (
      stops.0,
      last-stops c.args.text.now c.loop-rest.rest.now c.first_line.result.0.now c.first_line.result.1.now (told_by c.args.self.now) (told_by c.loop-rest.self) (told_by c.read.new.self)
          c.loop-rest.invariant.reads (unbroken all c.loop-rest.self.teller.is_broken c.loop-rest.invariant.goes stops.0) c.first_line.ensures.first c.in-Ok-false.ensures.tells stops.1,
    )

pub returns-in-Ok-false-clause-writes : goal.returns-in-Ok-false-clause-writes
returns-in-Ok-false-clause-writes g c =
    let sink = g.W.Sink.sink in
    (writes-more (sink c.args.output.now) (sink c.loop-rest.output) (sink c.read.new.output) 0 c.loop-rest.invariant.writes c.in-Ok-false.ensures.writes.0, refl)

pub returns-in-Err-clause-writes : goal.returns-in-Err-clause-writes
returns-in-Err-clause-writes g c =
    let sink = g.W.Sink.sink in
    (writes-more (sink c.args.output.now) (sink c.loop-rest.output) (sink c.read.new.output) (writes_of c.in-Err.stop) c.loop-rest.invariant.writes c.in-Err.ensures.writes.0, c.in-Err.ensures.writes.1)

pub returns-in-Ok-tell-clause-ends : goal.returns-in-Ok-tell-clause-ends
returns-in-Ok-tell-clause-ends g c =
    inl (record {
      last = told_by c.loop-rest.self;
      tells = last-all c.args.text.now c.loop-rest.rest.now (told_by c.args.self.now) (told_by c.loop-rest.self) c.loop-rest.invariant.reads (grind (arith, nat_tests));
      ends = (c.end.new.self, c.end.ensures, c.in-Ok-tell.ensures.told);
    })

pub returns-in-Ok-tell-clause-writes : goal.returns-in-Ok-tell-clause-writes
returns-in-Ok-tell-clause-writes g c =
    let sink = g.W.Sink.sink in
    (writes-more (sink c.args.output.now) (sink c.loop-rest.output) (sink c.tell.new.output) 0 c.loop-rest.invariant.writes c.in-Ok-tell.ensures.writes.0, refl)

pub returns-in-Err-tell-clause-writes : goal.returns-in-Err-tell-clause-writes
returns-in-Err-tell-clause-writes g c =
    let sink = g.W.Sink.sink in
    (writes-more (sink c.args.output.now) (sink c.loop-rest.output) (sink c.tell.new.output) (writes_of c.in-Err-tell.stop) c.loop-rest.invariant.writes c.in-Err-tell.ensures.writes.0, c.in-Err-tell.ensures.writes.1)
