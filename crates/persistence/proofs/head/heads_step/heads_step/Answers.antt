use Rattle.std.proofs.Common.{sym, ◌∙◌, take, arith}
use Rattle.persistence.proofs.InterimLemmas.{heads_kept, heads_final, heads_interim, heads_many, heads_fault, heads_never, never_after_many}
use Rattle.persistence.proofs.head.heads_step.heads_step.Goals as goal

pub returns-in-Err-clause-fault : goal.returns-in-Err-clause-fault
returns-in-Err-clause-fault c = λ bytes at. heads_fault bytes c.args.skipped c.args.buffer.now at c.args.piece.now c.in-Err.fault c.in-Err.ensures.fault

pub returns-in_default-clause-found : goal.returns-in_default-clause-found
returns-in_default-clause-found c = λ bytes at.
    heads_kept bytes c.args.skipped c.args.buffer.now at (take c.in-Ok.step.used c.args.piece.now) c.head_step.new.buffer (rw c.in_default.is at c.in-Ok.ensures.found)

pub returns-then-not-is_interim-clause-found : goal.returns-then-not-is_interim-clause-found
returns-then-not-is_interim-clause-found c = λ bytes at.
    heads_final bytes c.args.skipped c.args.buffer.now at (take c.in-Ok.step.used c.args.piece.now) c.head_step.new.buffer c.in-Some.head (rw c.in-Some.is at c.in-Ok.ensures.found)
    (sym c.is_interim.ensures ∙ c.if-not-is_interim.true)

pub returns-then-skipped-eq-MOST_INTERIMS-clause-fault : goal.returns-then-skipped-eq-MOST_INTERIMS-clause-fault
returns-then-skipped-eq-MOST_INTERIMS-clause-fault c = λ bytes at.
    heads_many bytes c.args.skipped c.args.buffer.now at c.args.piece.now c.in-Ok.step.used c.head_step.new.buffer c.in-Some.head (rw c.in-Some.is at c.in-Ok.ensures.found)
    (sym c.is_interim.ensures ∙ c.if-not-is_interim.false) c.if-skipped-eq-MOST_INTERIMS.true

pub returns-clause-found : goal.returns-clause-found
returns-clause-found c = λ bytes at.
    heads_interim bytes c.args.skipped c.args.buffer.now at (take c.in-Ok.step.used c.args.piece.now) c.head_step.new.buffer c.in-Some.head (rw c.in-Some.is at c.in-Ok.ensures.found)
    (sym c.is_interim.ensures ∙ c.if-not-is_interim.false) (omega (arith, c.requires.few, c.if-skipped-eq-MOST_INTERIMS.false))

pub returns-in-Err-clause-none : goal.returns-in-Err-clause-none
returns-in-Err-clause-none c = λ bytes at. heads_never bytes c.args.skipped c.args.buffer.now at c.args.piece.now c.in-Err.fault c.in-Err.ensures.fault

pub returns-then-skipped-eq-MOST_INTERIMS-clause-none : goal.returns-then-skipped-eq-MOST_INTERIMS-clause-none
returns-then-skipped-eq-MOST_INTERIMS-clause-none c = λ bytes at.
    never_after_many bytes c.args.skipped c.args.buffer.now at c.args.piece.now c.in-Ok.step.used c.head_step.new.buffer c.in-Some.head (rw c.in-Some.is at c.in-Ok.ensures.found)
    (sym c.is_interim.ensures ∙ c.if-not-is_interim.false) c.if-skipped-eq-MOST_INTERIMS.true
