use Rattle.std.proofs.Common.{[], ◌++◌, take, refl, sym}
use Rattle.std.proofs.lemmas.List.{append-nil}
use Rattle.persistence.specs.declared.body.state.ChunkPart.TheVariants.{Trailer}
use Rattle.persistence.proofs.ChunkStepLemmas.{still_due, trailer_kept, trailer_ends, trailer_fault, trailer_fixes}
use Rattle.persistence.proofs.chunks.step_in_trailer.Goals as goal

pub returns-in-Err-clause-fault : goal.returns-in-Err-clause-fault
returns-in-Err-clause-fault c = λ text due. trailer_fault text c.args.len c.args.buffer.now due c.args.piece.now c.in-Err.fault c.in-Err.ensures.fault

pub returns-in-Err-clause-fixes : goal.returns-in-Err-clause-fixes
returns-in-Err-clause-fixes c = λ text due. trailer_fixes text c.args.len c.args.buffer.now due c.args.piece.now

pub returns-then-step-clause-told : goal.returns-then-step-clause-told
returns-then-step-clause-told c = λ text due.
    let more = take c.in-Ok.step.used c.args.piece.now in
    record {
      front = text ++ more;
      rest = [];
      is = sym (append-nil (text ++ more));
      ends = trailer_ends text c.args.len c.args.buffer.now due more c.trailer_step.new.buffer (rw c.if-step.true at c.in-Ok.ensures.found);
      after = refl;
    }

pub returns-clause-told : goal.returns-clause-told
returns-clause-told c = λ text due.
    let more = take c.in-Ok.step.used c.args.piece.now in
    still_due Trailer (text ++ more) c.args.len c.trailer_step.new.buffer c.still_comes.result c.still_comes.ensures
    (trailer_kept text c.args.len c.args.buffer.now due more c.trailer_step.new.buffer (rw c.if-step.false at c.in-Ok.ensures.found))
