use Rattle.std.proofs.Common.{ℕ, Some, List, sym, ap, subst, ◌∙◌, arith, rules}
use Rattle.std.proofs.lemmas.List.{length-take, nil_from_length}
use Rattle.httparse.specs.Grammar.{AllPass, is_extension_byte}
use Rattle.persistence.specs.ReadingChunks.{IsWrittenSize, begins_crlf}
use Rattle.persistence.proofs.SizeLine.{words_place, words_before, line_too_long, nothing_yet, no_size, wrong_end, line_open, line_found, words_as, tail_as}
use Rattle.persistence.proofs.chunks.size_line.size_line.Goals as goal

pub returns-then-is_empty-clause-found : goal.returns-then-is_empty-clause-found
returns-then-is_empty-clause-found c = nothing_yet c.args.room c.args.text.now (nil_from_length c.args.text.now (search (rules, c.is_empty.ensures, c.if-is_empty.true)))

pub returns-then-end-clause-fault : goal.returns-then-end-clause-fault
returns-then-end-clause-fault c =
    line_too_long c.args.room c.args.text.now (omega (arith, length-take (words_place c.args.text.now) c.args.text.now, c.line_end-end.ensures.place, c.line_end-end.ensures.bound, c.if-end.true))

pub written_size-requires : goal.written_size-requires
written_size-requires c =
    subst (AllPass is_extension_byte) (sym (words_as c.args.text.now c.line_end-end.result c.line_end-end.ensures.place)) (words_before c.args.text.now)

pub returns-in_default-clause-fault : goal.returns-in_default-clause-fault
returns-in_default-clause-fault c =
    no_size c.args.room c.args.text.now (search (rules, c.is_empty.ensures, c.if-is_empty.false))
    (λ n fits w. c.in_default.ensures.none n fits (subst (λ (t : List ℕ). IsWrittenSize t n) (sym (words_as c.args.text.now c.line_end-end.result c.line_end-end.ensures.place)) w))

pub returns-in-None-clause-found : goal.returns-in-None-clause-found
returns-in-None-clause-found c =
    let words = words_as c.args.text.now c.line_end-end.result c.line_end-end.ensures.place in
    line_open c.args.room c.args.text.now c.in-Some.size c.in-Some.ensures.found.1 (subst (λ (t : List ℕ). IsWrittenSize t c.in-Some.size) words c.in-Some.ensures.found.0)
    (omega (arith, length-take (words_place c.args.text.now) c.args.text.now, c.line_end-end.ensures.place, c.line_end-end.ensures.bound, c.if-end.false))
    (ap begins_crlf (sym (tail_as c.args.text.now c.line_end-end.result c.line_end-end.ensures.place)) ∙ sym c.begins_crlf.ensures ∙ c.in-None.is)

pub returns-in-Some-true-clause-found : goal.returns-in-Some-true-clause-found
returns-in-Some-true-clause-found c =
    let words = words_as c.args.text.now c.line_end-end.result c.line_end-end.ensures.place in
    line_found c.args.room c.args.text.now c.in-Some.size c.line_end-end.result c.line_end-end.ensures.place c.line_end-end.ensures.bound c.in-Some.ensures.found.1
    (subst (λ (t : List ℕ). IsWrittenSize t c.in-Some.size) words c.in-Some.ensures.found.0) (omega (arith, c.if-end.false))
    (ap begins_crlf (sym (tail_as c.args.text.now c.line_end-end.result c.line_end-end.ensures.place)) ∙ sym c.begins_crlf.ensures ∙ c.in-Some-true.is ∙ ap Some c.in-Some-true.field-0-test)

pub returns-in-Some-false-clause-fault : goal.returns-in-Some-false-clause-fault
returns-in-Some-false-clause-fault c =
    wrong_end c.args.room c.args.text.now
    (ap begins_crlf (sym (tail_as c.args.text.now c.line_end-end.result c.line_end-end.ensures.place)) ∙ sym c.begins_crlf.ensures ∙ c.in-Some-false.is ∙ ap Some c.in-Some-false.field-0-test)
