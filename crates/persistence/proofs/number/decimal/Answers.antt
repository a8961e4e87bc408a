use Rattle.std.proofs.Common.{sym, ◌∙◌}
use Rattle.persistence.proofs.NumberLemmas.{AllDigits-from_list_all}
use Rattle.persistence.proofs.number.decimal.Goals as goal

pub value_of-requires-clause-digits : goal.value_of-requires-clause-digits
value_of-requires-clause-digits c = AllDigits-from_list_all c.args.text.now (sym c.are_digits.ensures ∙ c.if-not-are_digits.false)
