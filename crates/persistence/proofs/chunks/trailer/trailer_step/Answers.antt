use Rattle.std.proofs.Common.{ℕ, ◌-◌, List, ◌++◌, length, take, subst, sym, ap, ◌∙◌, arith}
use Rattle.httparse.specs.Spans.{SectionExceeds}
use Rattle.persistence.specs.Limits.{most_fields}
use Rattle.persistence.specs.Faults.{TrailerShows}
use Rattle.persistence.specs.declared.answer.ReadFault.TheVariants.{TrailerTooLong}
use Rattle.persistence.specs.ReadingHeads.{IsTaken, line_ends}
use Rattle.persistence.specs.ReadingChunks.{IsTrailerAwaited, IsUnfinishedSection, EndsSection}
use Rattle.persistence.proofs.TrailerLemmas.{trailer_awaited, trailer_too_many_lines}
use Rattle.persistence.proofs.StepLemmas.{first_taken}
use Rattle.persistence.proofs.PieceLemmas.{section_after, section_taken, section_whole}
use Rattle.persistence.proofs.chunks.trailer.trailer_step.Goals as goal

pub overflow_sub-result : goal.overflow_sub-result
overflow_sub-result c =
    let is = c.bytes.ensures ∙ c.fill-taken.ensures.bytes in
    let found = rw c.in-Ok-Some.field-0-is at c.in-Ok-Some.ensures.found in
    let after = section_after c.args.buffer.now c.args.piece.now c.bytes.result.now c.in-Ok-Some.len c.fill-taken.result is c.requires.awaited found in
    omega (arith, after, c.len-before.ensures)

pub returns-in-Ok-Some-clause-taken : goal.returns-in-Ok-Some-clause-taken
returns-in-Ok-Some-clause-taken c =
    let is = c.bytes.ensures ∙ c.fill-taken.ensures.bytes in
    let found = rw c.in-Ok-Some.field-0-is at c.in-Ok-Some.ensures.found in
    subst (λ (n : ℕ). IsTaken c.args.piece.now (c.in-Ok-Some.len - n)) (sym c.len-before.ensures)
    (section_taken c.args.buffer.now c.args.piece.now c.bytes.result.now c.in-Ok-Some.len c.fill-taken.result is c.requires.awaited found)

pub returns-in-Ok-Some-clause-found : goal.returns-in-Ok-Some-clause-found
returns-in-Ok-Some-clause-found c =
    let is = c.bytes.ensures ∙ c.fill-taken.ensures.bytes in
    let found = rw c.in-Ok-Some.field-0-is at c.in-Ok-Some.ensures.found in
    subst (λ (n : ℕ). EndsSection (c.args.buffer.now ++ take (c.in-Ok-Some.len - n) c.args.piece.now) c.clear.new.self) (sym c.len-before.ensures)
    (subst (λ (t : List ℕ). EndsSection (c.args.buffer.now ++ take (c.in-Ok-Some.len - length c.args.buffer.now) c.args.piece.now) t) (sym c.clear.ensures)
    (section_whole c.args.buffer.now c.args.piece.now c.bytes.result.now c.in-Ok-Some.len c.fill-taken.result is c.requires.awaited found))

pub returns-then-line_ends-gt-MOST_FIELDS-clause-fault : goal.returns-then-line_ends-gt-MOST_FIELDS-clause-fault
returns-then-line_ends-gt-MOST_FIELDS-clause-fault c =
    let is = c.bytes.ensures ∙ c.fill-taken.ensures.bytes in
    let so_far : IsUnfinishedSection c.bytes.result.now = rw c.in-Ok-None.field-0-is at c.in-Ok-None.ensures.found in
    let counted = c.line_ends.ensures.ends ∙ ap line_ends (sym c.bytes.ensures) in
    first_taken TrailerShows (SectionExceeds most_fields) c.args.buffer.now c.args.piece.now c.bytes.result.now c.fill-taken.result TrailerTooLong is
    (trailer_too_many_lines c.bytes.result.now so_far (omega (arith, counted, c.if-line_ends-gt-MOST_FIELDS.true)))

pub returns-else-line_ends-gt-MOST_FIELDS-clause-found : goal.returns-else-line_ends-gt-MOST_FIELDS-clause-found
returns-else-line_ends-gt-MOST_FIELDS-clause-found c =
    let is = c.bytes.ensures ∙ c.fill-taken.ensures.bytes in
    let so_far : IsUnfinishedSection c.bytes.result.now = rw c.in-Ok-None.field-0-is at c.in-Ok-None.ensures.found in
    let counted = c.line_ends.ensures.ends ∙ ap line_ends (sym c.bytes.ensures) in
    record {
      is = c.line_ends.ensures.same ∙ c.fill-taken.ensures.bytes;
      awaited = subst IsTrailerAwaited is (trailer_awaited c.bytes.result.now so_far (omega (arith, counted, c.if-line_ends-gt-MOST_FIELDS.false)));
      short = omega (arith, ap length is, so_far.short);
    }

pub returns-in-Err-clause-fault : goal.returns-in-Err-clause-fault
returns-in-Err-clause-fault c =
    first_taken TrailerShows (SectionExceeds most_fields) c.args.buffer.now c.args.piece.now c.bytes.result.now c.fill-taken.result c.in-Err.fault
    (c.bytes.ensures ∙ c.fill-taken.ensures.bytes) c.in-Err.ensures.fault
