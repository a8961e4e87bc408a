use Rattle.std.proofs.Common.{◌≡◌, ◌≤◌, ℕ, Err, List, length, take, subst, sym, ap, ◌∙◌, arith}
use Rattle.std.proofs.lemmas.List.{take_all}
use Rattle.httparse.specs.Grammar.{HasNoSection, NeverHasSection, MayBecomeSection}
use Rattle.httparse.specs.Spans.{IsSectionWithin, IsSectionOf, SectionExceeds}
use Rattle.persistence.specs.Limits.{most_fields, most_trailer_bytes}
use Rattle.persistence.proofs.NextHead.{at_complete, at_partial, too_many_is, not_too_many}
use Rattle.persistence.proofs.TrailerLemmas.{ends_trailer, trailer_past_limit, trailer_too_many, bad_trailer}
use Rattle.persistence.proofs.chunks.trailer.buffered_section.Goals as goal

-- all bytes are those in which a section has to end
all : (text : List ℕ) → length text ≤ most_trailer_bytes → text ≡ take most_trailer_bytes text
all text short = sym (take_all most_trailer_bytes text short)

pub returns-then-front-eq-MOST_TRAILER_BYTES-clause-fault : goal.returns-then-front-eq-MOST_TRAILER_BYTES-clause-fault
returns-then-front-eq-MOST_TRAILER_BYTES-clause-fault c =
    let front = all c.args.front.now c.requires in
    trailer_past_limit c.args.front.now (subst HasNoSection front (at_partial (HasNoSection c.args.front.now) _ c.in-Ok-Partial.field-0-is c.in-Ok-Partial.ensures.partial))
    (subst MayBecomeSection front (at_partial (MayBecomeSection c.args.front.now) _ c.in-Ok-Partial.field-0-is c.in-Ok-Partial.ensures.unfinished))
    (sym (ap length front) ∙ c.if-front-eq-MOST_TRAILER_BYTES.true)

pub returns-else-front-eq-MOST_TRAILER_BYTES-clause-found : goal.returns-else-front-eq-MOST_TRAILER_BYTES-clause-found
returns-else-front-eq-MOST_TRAILER_BYTES-clause-found c = record {
  none = at_partial (HasNoSection c.args.front.now) _ c.in-Ok-Partial.field-0-is c.in-Ok-Partial.ensures.partial;
  more = at_partial (MayBecomeSection c.args.front.now) _ c.in-Ok-Partial.field-0-is c.in-Ok-Partial.ensures.unfinished;
  short = omega (arith, c.requires, c.if-front-eq-MOST_TRAILER_BYTES.false);
}

pub returns-then-is_too_many_fields-clause-fault : goal.returns-then-is_too_many_fields-clause-fault
returns-then-is_too_many_fields-clause-fault c =
    trailer_too_many c.args.front.now (subst (SectionExceeds most_fields) (all c.args.front.now c.requires)
    (c.in-Err.ensures.too_many (ap Err (too_many_is c.in-Err.error (sym c.is_too_many_fields.ensures ∙ c.if-is_too_many_fields.true)))))

pub returns-else-is_too_many_fields-clause-fault : goal.returns-else-is_too_many_fields-clause-fault
returns-else-is_too_many_fields-clause-fault c =
    bad_trailer c.args.front.now (subst NeverHasSection (all c.args.front.now c.requires)
    (c.in-Err.ensures.invalid (not_too_many c.in-Err.error (sym c.is_too_many_fields.ensures ∙ c.if-is_too_many_fields.false))))

pub returns-in-Ok-Complete-clause-found : goal.returns-in-Ok-Complete-clause-found
returns-in-Ok-Complete-clause-found c =
    let front = all c.args.front.now c.requires in
    let of = subst (λ (t : List ℕ). IsSectionOf t 0 c.parse_headers.new.headers (c.in-Ok-Complete.len, c.in-Ok-Complete.field-0-0-1)) front (at_complete (IsSectionOf c.args.front.now 0 c.parse_headers.new.headers) _ (c.in-Ok-Complete.len, c.in-Ok-Complete.field-0-0-1) c.in-Ok-Complete.field-0-is c.in-Ok-Complete.ensures.complete) in
    ends_trailer c.args.front.now c.parse_headers.new.headers c.in-Ok-Complete.len c.in-Ok-Complete.field-0-0-1 (omega (arith, c.parse_headers.auto.headers))
    (subst (λ (t : List ℕ). IsSectionWithin t c.parse_headers.new.headers c.in-Ok-Complete.len c.in-Ok-Complete.field-0-0-1) front (at_complete (λ (r : ℕ × ℕ). IsSectionWithin c.args.front.now c.parse_headers.new.headers r.0 r.1) _ (c.in-Ok-Complete.len, c.in-Ok-Complete.field-0-0-1) c.in-Ok-Complete.field-0-is c.in-Ok-Complete.ensures.within))
    of.0 of.1 of.2
