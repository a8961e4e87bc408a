use Rattle.std.proofs.Common.{ℕ, ◌-◌, List, ◌++◌, length, take, subst, sym, ◌∙◌, arith}
use Rattle.persistence.specs.ReadingChunks.{AwaitsLine, EndsLine}
use Rattle.persistence.specs.ReadingHeads.{IsTaken}
use Rattle.persistence.proofs.PieceLemmas.{line_filled, line_kept, line_after, line_taken, line_whole, refuses_further}
use Rattle.persistence.proofs.chunks.size_line.line_step.Goals as goal

pub overflow_sub-result : goal.overflow_sub-result
overflow_sub-result c =
    let is = c.bytes.ensures ∙ line_filled c.args.buffer.now c.args.piece.now c.fill-taken.new.self c.line_front.result c.fill-taken.result 1024 c.fill-taken.ensures.bytes c.fill-taken.ensures.taken in
    let found = rw c.in-Ok-Some.field-0-is at c.in-Ok-Some.ensures.found in
    let after = line_after c.args.room c.args.buffer.now c.args.piece.now c.bytes.result.now c.in-Ok-Some.line c.fill-taken.result is c.requires.awaits found in
    omega (arith, after, c.len-before.ensures)

pub returns-in-Ok-None-clause-found : goal.returns-in-Ok-None-clause-found
returns-in-Ok-None-clause-found c =
    let filled = line_filled c.args.buffer.now c.args.piece.now c.fill-taken.new.self c.line_front.result c.fill-taken.result 1024 c.fill-taken.ensures.bytes c.fill-taken.ensures.taken in
    line_kept c.args.room (c.args.buffer.now ++ take c.fill-taken.result c.args.piece.now) c.fill-taken.new.self filled
    (subst (AwaitsLine c.args.room) (c.bytes.ensures ∙ filled) (rw c.in-Ok-None.field-0-is at c.in-Ok-None.ensures.found))

pub returns-in-Ok-Some-clause-taken : goal.returns-in-Ok-Some-clause-taken
returns-in-Ok-Some-clause-taken c =
    let is = c.bytes.ensures ∙ line_filled c.args.buffer.now c.args.piece.now c.fill-taken.new.self c.line_front.result c.fill-taken.result 1024 c.fill-taken.ensures.bytes c.fill-taken.ensures.taken in
    let found = rw c.in-Ok-Some.field-0-is at c.in-Ok-Some.ensures.found in
    subst (λ (n : ℕ). IsTaken c.args.piece.now (c.in-Ok-Some.line.len - n)) (sym c.len-before.ensures)
    (line_taken c.args.room c.args.buffer.now c.args.piece.now c.bytes.result.now c.in-Ok-Some.line c.fill-taken.result is c.requires.awaits found)

pub returns-in-Ok-Some-clause-found : goal.returns-in-Ok-Some-clause-found
returns-in-Ok-Some-clause-found c =
    let is = c.bytes.ensures ∙ line_filled c.args.buffer.now c.args.piece.now c.fill-taken.new.self c.line_front.result c.fill-taken.result 1024 c.fill-taken.ensures.bytes c.fill-taken.ensures.taken in
    let found = rw c.in-Ok-Some.field-0-is at c.in-Ok-Some.ensures.found in
    subst (λ (n : ℕ). EndsLine c.args.room (c.args.buffer.now ++ take (c.in-Ok-Some.line.len - n) c.args.piece.now) c.clear.new.self c.in-Ok-Some.line.size) (sym c.len-before.ensures)
    (subst (λ (t : List ℕ). EndsLine c.args.room (c.args.buffer.now ++ take (c.in-Ok-Some.line.len - length c.args.buffer.now) c.args.piece.now) t c.in-Ok-Some.line.size) (sym c.clear.ensures)
    (line_whole c.args.room c.args.buffer.now c.args.piece.now c.bytes.result.now c.in-Ok-Some.line c.fill-taken.result is c.requires.awaits found))

pub returns-in-Err-clause-fault : goal.returns-in-Err-clause-fault
returns-in-Err-clause-fault c =
    let is = c.bytes.ensures ∙ line_filled c.args.buffer.now c.args.piece.now c.fill-taken.new.self c.line_front.result c.fill-taken.result 1024 c.fill-taken.ensures.bytes c.fill-taken.ensures.taken in
    refuses_further c.args.room c.args.buffer.now c.args.piece.now c.bytes.result.now c.fill-taken.result c.in-Err.fault is c.in-Err.ensures.fault
