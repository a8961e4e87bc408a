use Rattle.std.proofs.Common.{sym, ◌∙◌, arith}
use Rattle.std.proofs.lemmas.Bool.Decides.{nat_tests}
use Rattle.streams.proofs.Numbers.{digits-utf8, number-parsed}
use Rattle.streams.proofs.words.number_of.Goals as goal

pub returns-in-Err : goal.returns-in-Err
returns-in-Err c = absurd (c.in-Err.ensures.cases.0 (digits-utf8 _ (sym c.is_digits.ensures ∙ c.if-not-is_digits.false)))

pub returns-in-Ok : goal.returns-in-Ok
returns-in-Ok c =
    let digits = sym c.is_digits.ensures ∙ c.if-not-is_digits.false in
    c.ok.ensures.value ∙ number-parsed c.args.word.now _ (grind (arith, nat_tests)) digits (rw c.in-Ok.ensures.cases.0 at c.parse.ensures.value.0)
