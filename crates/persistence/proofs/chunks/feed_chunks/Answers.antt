use Rattle.std.proofs.Common.{ℕ, ◌-◌, List, ◌++◌, length, take, drop, sym, subst, arith, length-take, length-drop}
use Rattle.std.proofs.lemmas.List.{append-nil, take_all}
use Rattle.persistence.specs.ReadingChunks.{FixesData, IsInChunks, IsFirstInChunks}
use Rattle.persistence.proofs.ChunkStepLemmas.{due_now, taken_further, taken_all_rest, surplus_after}
use Rattle.persistence.proofs.chunks.feed_chunks.Goals as goal

pub loop-at-init : goal.loop-at-init
loop-at-init c = (omega arith, λ text at. subst (λ (t : List ℕ). IsInChunks t c.args.chunks.now c.args.buffer.now) (sym (append-nil text)) at)

pub returns-in_default-clause-told : goal.returns-in_default-clause-told
returns-in_default-clause-told c = λ text at.
    surplus_after text c.args.piece.now c.loop-at.at c.loop-at.chunks c.loop-at.buffer (c.loop-at.invariant.1 text at) c.in_default.is c.loop-at-test.true

pub chunk_step-requires-clause-known : goal.chunk_step-requires-clause-known
chunk_step-requires-clause-known c =
    let text = c.requires.known.0 ++ take c.loop-at.at c.args.piece.now in
    (text, due_now text c.loop-at.chunks c.loop-at.buffer c.in-Some.part (c.loop-at.invariant.1 c.requires.known.0 c.requires.known.1) c.in-Some.is)

pub loop-at-preserved : goal.loop-at-preserved
loop-at-preserved c =
    let taken = c.in-Ok.ensures.taken in (
      omega (arith, taken.within, length-take (length c.args.piece.now - c.loop-at.at) (drop c.loop-at.at c.args.piece.now), length-drop c.loop-at.at c.args.piece.now, c.loop-at-test.true),
      λ text at. (
          let now = text ++ take c.loop-at.at c.args.piece.now in
          let due = due_now now c.loop-at.chunks c.loop-at.buffer c.in-Some.part (c.loop-at.invariant.1 text at) c.in-Some.is in
          subst (λ (t : List ℕ). IsInChunks t c.in-Ok.step.chunks c.chunk_step.new.buffer) (taken_further text c.args.piece.now c.loop-at.at c.in-Ok.step.used) (c.in-Ok.ensures.told now due)
          ),
    )

pub returns-in-Err-clause-fault : goal.returns-in-Err-clause-fault
returns-in-Err-clause-fault c = λ text at.
    let now = text ++ take c.loop-at.at c.args.piece.now in
    let due = due_now now c.loop-at.chunks c.loop-at.buffer c.in-Some.part (c.loop-at.invariant.1 text at) c.in-Some.is in
    subst (λ (t : List ℕ). IsFirstInChunks t c.in-Err.fault) (taken_all_rest text c.args.piece.now c.loop-at.at) (c.in-Err.ensures.fault now due)

pub returns-in-Err-clause-fixes : goal.returns-in-Err-clause-fixes
returns-in-Err-clause-fixes c = λ text at.
    let now = text ++ take c.loop-at.at c.args.piece.now in
    let due = due_now now c.loop-at.chunks c.loop-at.buffer c.in-Some.part (c.loop-at.invariant.1 text at) c.in-Some.is in
    subst (λ (t : List ℕ). FixesData t c.loop-at.chunks.len) (taken_all_rest text c.args.piece.now c.loop-at.at) (c.in-Err.ensures.fixes now due)

pub returns-clause-told : goal.returns-clause-told
returns-clause-told c = λ text at.
    subst (λ (t : List ℕ). IsInChunks (text ++ t) c.loop-at.chunks c.loop-at.buffer) (take_all c.loop-at.at c.args.piece.now c.loop-at-test.false) (c.loop-at.invariant.1 text at)
