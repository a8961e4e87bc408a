use Rattle.std.proofs.Common.{◌++◌, sym, subst}
use Rattle.persistence.specs.Framing.{body_kind}
use Rattle.persistence.specs.ReadingBody.{FixesBody}
use Rattle.persistence.proofs.StageLemmas.{passes_more, passes_fault, passes_fixes}
use Rattle.persistence.proofs.reader.stage.after_body.Goals as goal

pub returns-in-Ok : goal.returns-in-Ok
returns-in-Ok c = record {
  reached = λ method bytes at. (record {
    text = at.text ++ c.args.piece.now;
    passes = passes_more bytes at.text c.args.piece.now c.args.head at.passes;
    at = c.in-Ok.ensures.told (body_kind method at.passes.head) c.args.head.fields.counted at.text at.at;
  });
}

pub returns-in-Err : goal.returns-in-Err
returns-in-Err c = record {
  reached = λ method bytes at. (
      let more = passes_more bytes at.text c.args.piece.now c.args.head at.passes in
      record {
        first = passes_fault method (bytes ++ c.args.piece.now) c.args.head (at.text ++ c.args.piece.now) more c.in-Err.fault
            (c.in-Err.ensures.fault (body_kind method at.passes.head) c.args.head.fields.counted at.text at.at);
        tells = (at.text ++ c.args.piece.now, more);
        fixes = passes_fixes method (bytes ++ c.args.piece.now) c.args.head (at.text ++ c.args.piece.now) more c.len.result
            (subst (FixesBody (body_kind method at.passes.head) c.args.head.fields.counted (at.text ++ c.args.piece.now)) (sym c.len.ensures)
            (c.in-Err.ensures.fixes (body_kind method at.passes.head) c.args.head.fields.counted at.text at.at));
      });
}
