use Rattle.std.proofs.Common.{take, sym, ap, subst, ◌∙◌, arith}
use Rattle.std.proofs.lemmas.List.{length-take}
use Rattle.std.specs.Str.Parse.{AllDigits, digits_value}
use Rattle.httparse.specs.Grammar.{skip_ows}
use Rattle.persistence.specs.ReadingChunks.{IsWrittenSize, begins_extension}
use Rattle.persistence.proofs.WrittenSize.{digits_before, AllDigits-from_AllPass, written, read_back, digits_place, rest_of, found_of, none_of, no_extension}
use Rattle.persistence.proofs.chunks.size_line.written_size.Goals as goal

pub returns-then-end-eq0-clause-none : goal.returns-then-end-eq0-clause-none
returns-then-end-eq0-clause-none c = λ n fits w. omega (arith, (read_back c.args.words.now n w).0, c.digits_end-end.ensures.place, c.if-end-eq0.true)

pub value_of-requires-clause-digits : goal.value_of-requires-clause-digits
value_of-requires-clause-digits c =
    subst (λ n. AllDigits 16 (take n c.args.words.now)) (sym c.digits_end-end.ensures.place) (AllDigits-from_AllPass _ (digits_before c.args.words.now))

pub returns-then-not-begins_extension-clause-none : goal.returns-then-not-begins_extension-clause-none
returns-then-not-begins_extension-clause-none c = λ n fits w.
    no_extension c.args.words.now c.begins_extension.result
    (c.begins_extension.ensures ∙ ap begins_extension (c.trim_start.ensures ∙ ap skip_ows (rest_of c.args.words.now c.digits_end-end.result c.digits_end-end.ensures.place)))
    c.if-not-begins_extension.true n w

pub returns-clause-found : goal.returns-clause-found
returns-clause-found c =
    let place = c.digits_end-end.ensures.place in
    let words = c.args.words.now in
    let value = ap (λ n. digits_value 16 (take n words)) place in
    found_of words c.args.room (digits_value 16 (take c.digits_end-end.result words)) c.value_of.result c.value_of.ensures
    (subst (IsWrittenSize words) (sym value) (written words c.requires
    (omega (arith, length-take (digits_place words) words, place, c.digits_end-end.ensures.bound, c.if-end-eq0.false))
    (sym (c.begins_extension.ensures ∙ ap begins_extension (c.trim_start.ensures ∙ ap skip_ows (rest_of words c.digits_end-end.result place))) ∙ c.if-not-begins_extension.false)))

pub returns-clause-none : goal.returns-clause-none
returns-clause-none c =
    none_of c.args.words.now c.args.room (digits_value 16 (take c.digits_end-end.result c.args.words.now)) c.value_of.result c.value_of.ensures
    (ap (λ n. digits_value 16 (take n c.args.words.now)) c.digits_end-end.ensures.place)
