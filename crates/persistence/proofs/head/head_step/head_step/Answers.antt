use Rattle.std.proofs.Common.{ℕ, ◌-◌, List, ◌++◌, length, take, subst, sym, ap, ◌∙◌, arith}
use Rattle.httparse.specs.Spans.{ResponseExceeds}
use Rattle.persistence.specs.declared.answer.ReadFault.TheVariants.{HeadTooLong}
use Rattle.persistence.specs.Limits.{most_fields}
use Rattle.persistence.specs.Faults.{HeadShows}
use Rattle.persistence.specs.ReadingHeads.{AreWithin, fields_at, IsAwaited, IsUnfinished, IsTaken, EndsHead, skip_newlines, line_ends}
use Rattle.persistence.proofs.NextHead.{head_awaited, too_many_lines}
use Rattle.persistence.proofs.StepLemmas.{first_taken}
use Rattle.persistence.proofs.PieceLemmas.{filled_most, head_after, head_taken, head_whole, fields_within, fields_told}
use Rattle.persistence.proofs.head.head_step.head_step.Goals as goal

pub at-head-requires : goal.at-head-requires
at-head-requires c =
    let is = c.bytes.ensures ∙ c.fill-taken.ensures.bytes in
    let found = rw c.in-Ok-Some.field-0-is at c.in-Ok-Some.ensures.found in
    let short = filled_most c.args.buffer.now c.args.piece.now c.bytes.result.now c.fill-taken.result 16384 is c.fill-taken.ensures.taken c.requires.short in
    subst (λ (t : List ℕ). AreWithin t (take c.in-Ok-Some.spans.headers c.buffered_head.new.fields)) (c.bytes.ensures ∙ sym c.bytes-in-Ok-Some.ensures)
    (fields_within c.bytes.result.now c.buffered_head.new.fields c.in-Ok-Some.spans short found)

pub overflow_sub-result : goal.overflow_sub-result
overflow_sub-result c =
    let is = c.bytes.ensures ∙ c.fill-taken.ensures.bytes in
    let found = rw c.in-Ok-Some.field-0-is at c.in-Ok-Some.ensures.found in
    let after = head_after c.args.buffer.now c.args.piece.now c.bytes.result.now c.buffered_head.new.fields c.in-Ok-Some.spans c.fill-taken.result is c.requires.awaited found in
    omega (arith, after, c.len-before.ensures)

pub returns-in-Ok-Some-clause-taken : goal.returns-in-Ok-Some-clause-taken
returns-in-Ok-Some-clause-taken c =
    let is = c.bytes.ensures ∙ c.fill-taken.ensures.bytes in
    let found = rw c.in-Ok-Some.field-0-is at c.in-Ok-Some.ensures.found in
    subst (λ (n : ℕ). IsTaken c.args.piece.now (c.in-Ok-Some.spans.len - n)) (sym c.len-before.ensures)
    (head_taken c.args.buffer.now c.args.piece.now c.bytes.result.now c.buffered_head.new.fields c.in-Ok-Some.spans c.fill-taken.result is c.requires.awaited found)

pub returns-in-Ok-Some-clause-found : goal.returns-in-Ok-Some-clause-found
returns-in-Ok-Some-clause-found c =
    let is = c.bytes.ensures ∙ c.fill-taken.ensures.bytes in
    let found = rw c.in-Ok-Some.field-0-is at c.in-Ok-Some.ensures.found in
    let short = filled_most c.args.buffer.now c.args.piece.now c.bytes.result.now c.fill-taken.result 16384 is c.fill-taken.ensures.taken c.requires.short in
    let fields = take c.in-Ok-Some.spans.headers c.buffered_head.new.fields in
    let says = c.at-head.ensures found.head found.version found.code
    (ap (λ (t : List ℕ). fields_at t fields) (c.bytes-in-Ok-Some.ensures ∙ sym c.bytes.ensures) ∙ fields_told c.bytes.result.now c.buffered_head.new.fields c.in-Ok-Some.spans short found) in
    subst (λ (n : ℕ). EndsHead (c.args.buffer.now ++ take (c.in-Ok-Some.spans.len - n) c.args.piece.now) c.clear.new.self c.at-head.result) (sym c.len-before.ensures)
    (subst (λ (t : List ℕ). EndsHead (c.args.buffer.now ++ take (c.in-Ok-Some.spans.len - length c.args.buffer.now) c.args.piece.now) t c.at-head.result) (sym c.clear.ensures)
    (head_whole c.args.buffer.now c.args.piece.now c.bytes.result.now c.buffered_head.new.fields c.in-Ok-Some.spans c.fill-taken.result is c.requires.awaited found c.at-head.result says))

pub returns-then-head_line_ends-clause-fault : goal.returns-then-head_line_ends-clause-fault
returns-then-head_line_ends-clause-fault c =
    let is = c.bytes.ensures ∙ c.fill-taken.ensures.bytes in
    let so_far : IsUnfinished c.bytes.result.now = rw c.in-Ok-None.field-0-is at c.in-Ok-None.ensures.found in
    let counted = c.head_line_ends.ensures.ends ∙ ap (λ (t : List ℕ). line_ends (skip_newlines t)) (sym c.bytes.ensures) in
    first_taken HeadShows (ResponseExceeds most_fields) c.args.buffer.now c.args.piece.now c.bytes.result.now c.fill-taken.result HeadTooLong is
    (too_many_lines c.bytes.result.now so_far (omega (arith, counted, c.if-head_line_ends.true)))

pub returns-else-head_line_ends-clause-found : goal.returns-else-head_line_ends-clause-found
returns-else-head_line_ends-clause-found c =
    let is = c.bytes.ensures ∙ c.fill-taken.ensures.bytes in
    let so_far : IsUnfinished c.bytes.result.now = rw c.in-Ok-None.field-0-is at c.in-Ok-None.ensures.found in
    let counted = c.head_line_ends.ensures.ends ∙ ap (λ (t : List ℕ). line_ends (skip_newlines t)) (sym c.bytes.ensures) in
    record {
      is = c.head_line_ends.ensures.same ∙ c.fill-taken.ensures.bytes;
      awaited = subst IsAwaited is (head_awaited c.bytes.result.now so_far (omega (arith, counted, c.if-head_line_ends.false)));
      short = omega (arith, ap length is, so_far.short);
    }

pub returns-in-Err-clause-fault : goal.returns-in-Err-clause-fault
returns-in-Err-clause-fault c =
    first_taken HeadShows (ResponseExceeds most_fields) c.args.buffer.now c.args.piece.now c.bytes.result.now c.fill-taken.result c.in-Err.fault
    (c.bytes.ensures ∙ c.fill-taken.ensures.bytes) c.in-Err.ensures.fault
