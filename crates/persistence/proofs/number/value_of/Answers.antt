use Rattle.std.proofs.Common.{arith}
use Rattle.std.proofs.lemmas.Grind.{common_steps}
use Rattle.persistence.proofs.NumberLemmas.{digits_value_after-drop}
use Rattle.persistence.proofs.number.value_of.Goals as goal

pub returns-in_default : goal.returns-in_default
returns-in_default c = omega (arith, c.in_default.ensures, digits_value_after-drop c.args.radix c.loop-digit.value c.loop-digit.digit-index c.args.digits.now c.requires.above c.loop-digit-test.true)

pub returns-in_default-checked_add : goal.returns-in_default-checked_add
returns-in_default-checked_add c =
    let more = digits_value_after-drop c.args.radix c.loop-digit.value c.loop-digit.digit-index c.args.digits.now c.requires.above c.loop-digit-test.true in
    grind (arith, common_steps, more, c.in-Some.ensures, c.in_default-checked_add.ensures)
