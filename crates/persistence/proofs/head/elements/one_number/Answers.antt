use Rattle.std.proofs.Common.{◌≡◌, ◌≤◌, Some, None, cond, take, [], ◌∷◌, sym, ap, ◌∙◌, arith}
use Rattle.std.specs.List.{position_or_len}
use Rattle.httparse.specs.Grammar.{trim_ows}
use Rattle.persistence.specs.Fields.{elements, is_comma}
use Rattle.persistence.specs.Limits.{most_bytes}
use Rattle.persistence.proofs.ElementLemmas.{FirstIs-elements, elements_alone}
use Rattle.persistence.proofs.FieldLemmas.{one_number-first, one_number-none, one_number-alone}
use Rattle.persistence.proofs.head.elements.one_number.Goals as goal

pub returns-in_default : goal.returns-in_default
returns-in_default c =
    let value = c.args.value.now in
    let is : c.trim.result.now ≡ trim_ows (take (position_or_len is_comma value) value) = c.trim.ensures ∙ ap (λ n. trim_ows (take n value)) c.comma_place-place.ensures in
    let first = FirstIs-elements value in
    sym (one_number-none (elements value) c.trim.result.now (first.0, first.1 ∙ ap (λ x. x ∷ first.0) (sym is)) c.in_default.ensures.none)

pub returns-then-place-value : goal.returns-then-place-value
returns-then-place-value c =
    let value = c.args.value.now in
    let alone : elements value ≡ c.trim.result.now ∷ [] =
    elements_alone value c.comma_place-place.result c.comma_place-place.ensures c.if-place-value.true ∙ ap (λ x. x ∷ []) (sym c.trim.ensures) in
    let fits : c.in-Some.first ≤ most_bytes = omega arith in
    sym (one_number-alone (elements value) c.trim.result.now c.in-Some.first alone c.in-Some.ensures.found fits)

pub returns-then-are_all : goal.returns-then-are_all
returns-then-are_all c =
    let value = c.args.value.now in
    let is : c.trim.result.now ≡ trim_ows (take (position_or_len is_comma value) value) = c.trim.ensures ∙ ap (λ n. trim_ows (take n value)) c.comma_place-place.ensures in
    let first = FirstIs-elements value in
    let fits : c.in-Some.first ≤ most_bytes = omega arith in
    sym (one_number-first (elements value) c.trim.result.now c.in-Some.first (first.0, first.1 ∙ ap (λ x. x ∷ first.0) (sym is)) c.in-Some.ensures.found fits
    ∙ ap (λ b. cond b (Some c.in-Some.first) None) (sym c.are_all.ensures ∙ c.if-are_all.true))

pub returns-else-are_all : goal.returns-else-are_all
returns-else-are_all c =
    let value = c.args.value.now in
    let is : c.trim.result.now ≡ trim_ows (take (position_or_len is_comma value) value) = c.trim.ensures ∙ ap (λ n. trim_ows (take n value)) c.comma_place-place.ensures in
    let first = FirstIs-elements value in
    let fits : c.in-Some.first ≤ most_bytes = omega arith in
    sym (one_number-first (elements value) c.trim.result.now c.in-Some.first (first.0, first.1 ∙ ap (λ x. x ∷ first.0) (sym is)) c.in-Some.ensures.found fits
    ∙ ap (λ b. cond b (Some c.in-Some.first) None) (sym c.are_all.ensures ∙ c.if-are_all.false))
