use Rattle.std.proofs.Common.{◌≡◌, drop}
use Rattle.std.specs.Str.Parse.{AllDigits, digits_value, digits_value_after}
use Rattle.persistence.proofs.number.value_of.Given as goal

abbrev pub invariant-loop-digit : goal.invariant-loop-digit
invariant-loop-digit l = record {
  rest : AllDigits l.radix (drop l.digit-index l.digits);
  value : digits_value_after l.radix l.value (drop l.digit-index l.digits) ≡ digits_value l.radix l.digits;
}
