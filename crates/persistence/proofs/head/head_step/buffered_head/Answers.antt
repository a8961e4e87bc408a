use Rattle.std.proofs.Common.{◌≡◌, ◌≤◌, ℕ, Err, List, length, take, subst, sym, ap, ◌∙◌, arith}
use Rattle.std.proofs.lemmas.List.{take_all}
use Rattle.httparse.specs.Grammar.{HasNoResponse, NeverHasResponse, MayBecomeResponse}
use Rattle.httparse.specs.Spans.{IsResponseWithin, IsResponseOf, ResponseExceeds}
use Rattle.persistence.specs.Limits.{most_fields, most_head_bytes}
use Rattle.persistence.proofs.NextHead.{finds_head, past_limit, too_many_fields, bad_head, at_complete, at_partial, too_many_is, not_too_many}
use Rattle.persistence.proofs.head.head_step.buffered_head.Goals as goal

-- all bytes are those in which a head has to end
all : (text : List ℕ) → length text ≤ most_head_bytes → text ≡ take most_head_bytes text
all text short = sym (take_all most_head_bytes text short)

pub returns-in-Ok-Complete-clause-found : goal.returns-in-Ok-Complete-clause-found
returns-in-Ok-Complete-clause-found c =
    let front = all c.args.front.now c.requires.short in
    let of = subst (λ (t : List ℕ). IsResponseOf t c.parse_response.new.headers c.in-Ok-Complete.spans) front (at_complete (IsResponseOf c.args.front.now c.parse_response.new.headers) _ _ c.in-Ok-Complete.field-0-is c.in-Ok-Complete.ensures.complete) in
    finds_head c.args.front.now c.parse_response.new.headers c.in-Ok-Complete.spans (omega (arith, c.requires.count, c.parse_response.auto.headers))
    (subst (λ (t : List ℕ). IsResponseWithin t c.parse_response.new.headers c.in-Ok-Complete.spans) front (at_complete (IsResponseWithin c.args.front.now c.parse_response.new.headers) _ _ c.in-Ok-Complete.field-0-is c.in-Ok-Complete.ensures.within)) of.0 of.1

pub returns-then-front-eq-MOST_HEAD_BYTES-clause-fault : goal.returns-then-front-eq-MOST_HEAD_BYTES-clause-fault
returns-then-front-eq-MOST_HEAD_BYTES-clause-fault c =
    let front = all c.args.front.now c.requires.short in
    past_limit c.args.front.now (subst HasNoResponse front (at_partial (HasNoResponse c.args.front.now) _ c.in-Ok-Partial.field-0-is c.in-Ok-Partial.ensures.partial)) (subst MayBecomeResponse front (at_partial (MayBecomeResponse c.args.front.now) _ c.in-Ok-Partial.field-0-is c.in-Ok-Partial.ensures.unfinished))
    (sym (ap length front) ∙ c.if-front-eq-MOST_HEAD_BYTES.true)

pub returns-else-front-eq-MOST_HEAD_BYTES-clause-found : goal.returns-else-front-eq-MOST_HEAD_BYTES-clause-found
returns-else-front-eq-MOST_HEAD_BYTES-clause-found c = record {
  none = at_partial (HasNoResponse c.args.front.now) _ c.in-Ok-Partial.field-0-is c.in-Ok-Partial.ensures.partial;
  more = at_partial (MayBecomeResponse c.args.front.now) _ c.in-Ok-Partial.field-0-is c.in-Ok-Partial.ensures.unfinished;
  short = omega (arith, c.requires.short, c.if-front-eq-MOST_HEAD_BYTES.false);
}

pub returns-then-is_too_many_fields-clause-fault : goal.returns-then-is_too_many_fields-clause-fault
returns-then-is_too_many_fields-clause-fault c =
    too_many_fields c.args.front.now (subst (ResponseExceeds most_fields) (all c.args.front.now c.requires.short)
    (subst (λ (n : ℕ). ResponseExceeds n c.args.front.now) c.requires.count (c.in-Err.ensures.too_many (ap Err (too_many_is c.in-Err.error (sym c.is_too_many_fields.ensures ∙ c.if-is_too_many_fields.true))))))

pub returns-else-is_too_many_fields-clause-fault : goal.returns-else-is_too_many_fields-clause-fault
returns-else-is_too_many_fields-clause-fault c =
    bad_head c.args.front.now (subst NeverHasResponse (all c.args.front.now c.requires.short)
    (c.in-Err.ensures.invalid (not_too_many c.in-Err.error (sym c.is_too_many_fields.ensures ∙ c.if-is_too_many_fields.false))))
