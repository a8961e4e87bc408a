use Rattle.std.proofs.Common.{ap, ap₂, subst, Bool}
use Rattle.audit.specs.Audits.{Audited}
use Rattle.audit_stream.specs.declared.audit_output.AuditOutput.{AuditOutput}
use Rattle.audit_stream.specs.Audits.{ReadsStream}
use Rattle.audit_stream.specs.Runs.{told_by}
use Rattle.audit_stream.specs.Tells.{Told, nothing_told}
use Rattle.audit_stream.specs.Writing.{failed_writes}
use Rattle.audit_stream.proofs.Pieces.{judged}
use Rattle.audit_stream.proofs.Writings.{writes-more}
use Rattle.audit_stream.proofs.reading.audit_stream.Goals as goal

pub returns-in-Ok-read_all : goal.returns-in-Ok-read_all
returns-in-Ok-read_all g c =
    let sink = g.W.Sink.sink in
    let unread = g.R.Source.source c.args.reader.now in
    let left = g.R.Source.source c.read_all.new.reader in
    let told = told_by c.read_all.new.self in
    let all = c.new-2.result.telling.all in
    let begun = ap₂ (λ (audited : Audited) (broken : Bool). let begun : Told = record { audited = audited; broken = broken } in begun) c.in-Ok.ensures.ok c.new-2.ensures.none in
    let reads = subst (λ (all : Bool). ReadsStream all unread left nothing_told told) (ap (λ (telling : AuditOutput). telling.all) c.new-2.ensures.telling)
    (subst (λ (old : Told). ReadsStream all unread left old told) begun c.in-Ok-read_all.ensures.reads) in
    record {
      judges = judged c.args.telling.all unread left told c.finish.result reads c.finish.ensures.verdict c.finish.ensures.writes.1;
      writes = writes-more (sink c.args.output.now) (sink c.read_all.new.output) (sink c.finish.new.output) (failed_writes c.finish.result) c.in-Ok-read_all.ensures.writes c.finish.ensures.writes.0;
    }
