use Rattle.std.proofs.Common.{◌^◌, sym, ◌∙◌}
use Rattle.streams.proofs.Numbers.{converted-below, number-small, number-none}
use Rattle.streams.proofs.words.small_number_of.Goals as goal

pub returns-in-Some : goal.returns-in-Some
returns-in-Some c =
    c.ok.ensures.value ∙ converted-below (2 ^ 32) c.in-Some.number c.try_from.result c.try_from.ensures
    ∙ sym (number-small c.args.word.now c.in-Some.number (sym c.number_of.ensures ∙ c.in-Some.is))

pub returns-in-None : goal.returns-in-None
returns-in-None c = sym (number-none c.args.word.now (sym c.number_of.ensures ∙ c.in-None.is))
