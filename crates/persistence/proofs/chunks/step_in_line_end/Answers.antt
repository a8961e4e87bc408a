use Rattle.std.proofs.Common.{ℕ, ◌≡◌, ◌<◌, Some, List, [], ◌∷◌, ◌++◌, length, take, drop, slice_index_or, refl, sym, ap, subst, ◌∙◌}
use Rattle.std.proofs.lemmas.List.{take_more}
use Rattle.persistence.specs.declared.answer.ReadFault.TheVariants.{BadChunk}
use Rattle.persistence.specs.declared.body.state.ChunkPart.TheVariants.{Line}
use Rattle.persistence.specs.Faults.{ChunkedShows, HasLongTrailer}
use Rattle.persistence.specs.ReadingChunks.{FixesData, IsLineDue}
use Rattle.persistence.proofs.StepLemmas.{taken_and_rest, first_taken}
use Rattle.persistence.proofs.ChunkedLemmas.{first_bad_chunk}
use Rattle.persistence.proofs.ChunkStepLemmas.{still_due, line_due, fixed_further}
use Rattle.persistence.proofs.chunks.step_in_line_end.Goals as goal

-- the first byte of a piece
first_byte : (piece : List ℕ) → 0 < length piece → take 1 piece ≡ slice_index_or piece 0 0 ∷ []
first_byte piece some = take_more piece 0 0 some

pub returns-in-Some-true-clause-told : goal.returns-in-Some-true-clause-told
returns-in-Some-true-clause-told c = λ text due.
    let ends = c.in-Some-true.is ∙ ap Some c.in-Some-true.field-0-test in
    still_due Line (text ++ take 1 c.args.piece.now) c.args.len [] c.still_comes-in-Some-true.result c.still_comes-in-Some-true.ensures
    (subst (λ (t : List ℕ). IsLineDue (text ++ t) c.args.len []) (sym (first_byte c.args.piece.now c.requires.some))
    (line_due (text ++ slice_index_or c.args.piece.now 0 0 ∷ []) c.args.len (c.chunk_end_step.ensures.whole ends text c.args.len due.after)))

pub returns-in-Some-false-clause-fault : goal.returns-in-Some-false-clause-fault
returns-in-Some-false-clause-fault c = λ text due.
    let wrong = c.in-Some-false.is ∙ ap Some c.in-Some-false.field-0-test in
    let byte = slice_index_or c.args.piece.now 0 0 in
    first_taken ChunkedShows HasLongTrailer text c.args.piece.now (text ++ byte ∷ []) 1 BadChunk
    (ap (λ (t : List ℕ). text ++ t) (sym (first_byte c.args.piece.now c.requires.some)))
    (first_bad_chunk (text ++ byte ∷ []) BadChunk (record { is = refl; shows = c.chunk_end_step.ensures.fault wrong text c.args.len due.after }))

pub returns-in-Some-false-clause-fixes : goal.returns-in-Some-false-clause-fixes
returns-in-Some-false-clause-fixes c = λ text due.
    let wrong = c.in-Some-false.is ∙ ap Some c.in-Some-false.field-0-test in
    let byte = slice_index_or c.args.piece.now 0 0 in
    subst (λ (t : List ℕ). FixesData t c.args.len)
    (taken_and_rest text c.args.piece.now (text ++ byte ∷ []) 1 (ap (λ (t : List ℕ). text ++ t) (sym (first_byte c.args.piece.now c.requires.some))))
    (fixed_further (text ++ byte ∷ []) (drop 1 c.args.piece.now) c.args.len (c.chunk_end_step.ensures.fixes wrong text c.args.len due.after))
