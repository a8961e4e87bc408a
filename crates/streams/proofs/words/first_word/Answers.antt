use Rattle.std.proofs.Common.{◌∷◌, take, drop, sym, ◌∙◌, ap, arith, refl}
use Rattle.std.proofs.lemmas.Bool.Decides.{nat_tests}
use Rattle.streams.specs.Words.{words}
use Rattle.streams.proofs.Splits.{words-first, words-empty}
use Rattle.streams.proofs.words.first_word.Goals as goal

pub returns-then-is_empty : goal.returns-then-is_empty
returns-then-is_empty c = sym c.without_spaces-text.ensures.same ∙ words-empty _ (grind (arith, nat_tests))

pub returns : goal.returns
returns c =
    let text = c.without_spaces-text.result.now in
    sym c.without_spaces-text.ensures.same
    ∙ words-first text (grind (arith, nat_tests)) c.without_spaces-text.ensures.first
    ∙ ap (λ n. take n text ∷ words (drop n text)) (sym c.place_of.ensures.value)
    ∙ rw (c.split_at.ensures.front, c.split_at.ensures.back) refl
