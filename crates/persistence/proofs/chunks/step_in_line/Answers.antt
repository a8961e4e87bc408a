use Rattle.std.proofs.Common.{◌++◌, take, arith}
use Rattle.persistence.specs.declared.body.state.ChunkPart.TheVariants.{Line, Data, Trailer}
use Rattle.persistence.proofs.ChunkStepLemmas.{still_due, line_kept_on, line_begins, line_refused, line_fixes, trailer_due}
use Rattle.persistence.proofs.chunks.step_in_line.Goals as goal

pub returns-in-Err-clause-fault : goal.returns-in-Err-clause-fault
returns-in-Err-clause-fault c = λ text due. line_refused text c.args.len c.args.buffer.now due c.args.piece.now c.in-Err.fault c.in-Err.ensures.fault

pub returns-in-Err-clause-fixes : goal.returns-in-Err-clause-fixes
returns-in-Err-clause-fixes c = λ text due. line_fixes text c.args.len c.args.buffer.now due c.args.piece.now c.in-Err.fault c.in-Err.ensures.fault

pub returns-in_default-clause-told : goal.returns-in_default-clause-told
returns-in_default-clause-told c = λ text due.
    let more = take c.in-Ok.step.used c.args.piece.now in
    still_due Line (text ++ more) c.args.len c.line_step.new.buffer c.still_comes.result c.still_comes.ensures
    (line_kept_on text c.args.len c.args.buffer.now due more c.line_step.new.buffer (rw c.in_default.is at c.in-Ok.ensures.found))

pub returns-then-size-eq0-clause-told : goal.returns-then-size-eq0-clause-told
returns-then-size-eq0-clause-told c = λ text due.
    let more = take c.in-Ok.step.used c.args.piece.now in
    let ends = rw c.in-Some.is at c.in-Ok.ensures.found in
    let begins = line_begins text c.args.len c.args.buffer.now due more c.line_step.new.buffer c.in-Some.size ends in
    still_due Trailer (text ++ more) c.args.len c.line_step.new.buffer c.still_comes-then-size-eq0.result c.still_comes-then-size-eq0.ensures
    (trailer_due (text ++ more) c.args.len c.line_step.new.buffer ends.is (begins.last c.if-size-eq0.true))

pub returns-clause-told : goal.returns-clause-told
returns-clause-told c = λ text due.
    let more = take c.in-Ok.step.used c.args.piece.now in
    let ends = rw c.in-Some.is at c.in-Ok.ensures.found in
    let begins = line_begins text c.args.len c.args.buffer.now due more c.line_step.new.buffer c.in-Some.size ends in
    still_due (Data c.in-Some.size) (text ++ more) c.args.len c.line_step.new.buffer c.still_comes-2.result c.still_comes-2.ensures
    (record { is = ends.is; within = begins.next (omega (arith, c.if-size-eq0.false)) })
