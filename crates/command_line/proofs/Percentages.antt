-- What the decimals of a percentage say.
use Rattle.std.proofs.Common.{◌≡◌, ℕ, ◌^◌, ◌*◌, ◌<◌, Bool, true, false, cond, List, [], ◌∷◌, length, refl, ap, sym, ◌∙◌, arith, Some, None}
use Rattle.std.specs.Prelude.{◌&&◌, nat_lt, min}
use Rattle.std.specs.List.{list_all}
use Rattle.std.specs.Char.{is_ascii_digit}
use Rattle.std.specs.Str.{all_ascii_digits}
use Rattle.std.specs.Str.Parse.{digits_value}
use Rattle.std.proofs.lemmas.Str.Parse.{IsNumeralModel, digits_value_short, numerals_by_value, tells_all_ascii_digits}
use Rattle.streams.specs.Words.{number, if_below, has_bytes}
use Rattle.command_line.specs.Numbers.{decimals_in}

same-digits : (text : List ℕ) → list_all is_ascii_digit text ≡ all_ascii_digits text
same-digits [] = refl
same-digits (c ∷ cs) = ap (λ b. is_ascii_digit c && b) (same-digits cs)

own : IsNumeralModel (λ ds. all_ascii_digits ds ≡ true) (digits_value 10)
own = numerals_by_value _ tells_all_ascii_digits

below-is : (v n : ℕ) (b : Bool) → cond b (Some v) None ≡ Some n → v ≡ n
below-is v n true e = cc
below-is v n false e = cc

numeral-is : (has all : Bool) (v n : ℕ) → cond (has && all) (if_below (2 ^ 64) v) None ≡ Some n → (all ≡ true) × (v ≡ n)
numeral-is true true v n e = (refl, below-is v n (nat_lt v (2 ^ 64)) e)
numeral-is true false v n e = cc
numeral-is false all v n e = cc

-- a number of one digit is less than ten
pub one-digit : (text : List ℕ) (n : ℕ) → length text ≡ 1 → number (2 ^ 64) text ≡ Some n → n < 10
unfolding number
one-digit text n one e =
    let parts = numeral-is (has_bytes text) (list_all is_ascii_digit text) (digits_value 10 text) n e in
    let short = digits_value_short own text 1 (sym (same-digits text) ∙ parts.0) (omega (arith, one)) in
    omega (arith, short, parts.1)

-- one decimal is a number of tenths
pub tenths-read : (text : List ℕ) (n tens : ℕ) → length text ≡ 1 → number (2 ^ 64) text ≡ Some n
    → tens ≡ min (n * 10) 18446744073709551615 → Some tens ≡ decimals_in text
tenths-read text n tens one e is =
    let small = one-digit text n one e in
    let same : tens ≡ n * 10 = omega (arith, small, is) in
    rw (one, e, same) refl
