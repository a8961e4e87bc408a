-- What parsing a word of digits gives.
use Rattle.std.proofs.Common.{◌≡◌, ℕ, ◌^◌, ◌<◌, ◌≤◌, Bool, true, false, cond, List, [], ◌∷◌, length, refl, ap, sym, ◌∙◌, arith, Result, Ok, Err, Some, None}
use Rattle.std.specs.Prelude.{◌&&◌, nat_lt}
use Rattle.std.specs.List.{list_all}
use Rattle.std.specs.Char.{is_ascii_digit}
use Rattle.std.specs.Str.{all_ascii_digits, IsUtf8}
use Rattle.std.specs.Str.Parse.{digits_value, ParsesUnsigned}
use Rattle.std.specs.Result.{OkIff, result_ok}
use Rattle.std.proofs.lemmas.Str.{IsUtf8-from_ascii}
use Rattle.std.proofs.lemmas.Str.Parse.{IsNumeralModel, numerals_by_value, tells_all_ascii_digits, parse_digits}
use Rattle.std.proofs.lemmas.Fmt.{IsAscii-from_digits}
use Rattle.std.proofs.lemmas.Bool.{le-ltb, lt-ltb, ltb-false}
use Rattle.std.proofs.lemmas.Bool.Decides.{nat_tests}
use Rattle.streams.specs.Words.{number, is_numeral, if_below, has_bytes}

same-digits : (word : List ℕ) → list_all is_ascii_digit word ≡ all_ascii_digits word
same-digits [] = refl
same-digits (c ∷ cs) = ap (λ b. is_ascii_digit c && b) (same-digits cs)

own : IsNumeralModel (λ ds. all_ascii_digits ds ≡ true) (digits_value 10)
own = numerals_by_value _ tells_all_ascii_digits

pub digits-utf8 : (word : List ℕ) → list_all is_ascii_digit word ≡ true → IsUtf8 word
digits-utf8 word h = IsUtf8-from_ascii word (IsAscii-from_digits word (own.to word (sym (same-digits word) ∙ h)))

has-bytes : (word : List ℕ) → 0 < length word → has_bytes word ≡ true
has-bytes word h = grind (arith, nat_tests)

read : {E : Type 0} (word : List ℕ) (r : Result ℕ E) → OkIff r ((0 < length word) × (digits_value 10 word < 2 ^ 64)) (digits_value 10 word)
    → 0 < length word → result_ok r ≡ cond (nat_lt (digits_value 10 word) (2 ^ 64)) (Some (digits_value 10 word)) None
read word (Ok n) h some = rw (lt-ltb _ _ h.0.1) (ap Some h.1)
read word (Err e) h some =
    let large : 2 ^ 64 ≤ digits_value 10 word = omega (arith, λ (small : digits_value 10 word < 2 ^ 64). h (some, small)) in
    rw (le-ltb (digits_value 10 word) (2 ^ 64) large) refl

pub number-parsed : {E : Type 0} (word : List ℕ) (r : Result ℕ E) → 0 < length word → list_all is_ascii_digit word ≡ true
    → ParsesUnsigned 64 10 word r → result_ok r ≡ number (2 ^ 64) word
unfolding number
number-parsed word r some digits h =
    rw (has-bytes word some, digits) (read word r (parse_digits own 64 word r h (sym (same-digits word) ∙ digits)) some)

-- what 64 bits hold, told of 32
below-small : (v n : ℕ) (b : Bool) → cond b (Some v) None ≡ Some n → if_below (2 ^ 32) v ≡ if_below (2 ^ 32) n
below-small v n true e = let same : v ≡ n = cc in ap (if_below (2 ^ 32)) same
below-small v n false e = cc

small-some : (v n : ℕ) (b : Bool) → cond b (if_below (2 ^ 64) v) None ≡ Some n → cond b (if_below (2 ^ 32) v) None ≡ if_below (2 ^ 32) n
small-some v n true e = below-small v n (nat_lt v (2 ^ 64)) e
small-some v n false e = cc

small-none : (v : ℕ) (b : Bool) → cond b (if_below (2 ^ 64) v) None ≡ None → cond b (if_below (2 ^ 32) v) None ≡ None
small-none v true e =
    let at : (d : Bool) → nat_lt v (2 ^ 64) ≡ d → cond d (Some v) None ≡ None → if_below (2 ^ 32) v ≡ None = elim [
      | true ↦ λ same none. cc
      | false ↦ λ same none. let large = ltb-false v (2 ^ 64) same in rw (le-ltb v (2 ^ 32) (omega arith)) refl
    ] in
    at (nat_lt v (2 ^ 64)) refl e
small-none v false e = refl

pub number-small : (word : List ℕ) (n : ℕ) → number (2 ^ 64) word ≡ Some n → number (2 ^ 32) word ≡ if_below (2 ^ 32) n
unfolding number
number-small word n e = small-some (digits_value 10 word) n (is_numeral word) e

pub number-none : (word : List ℕ) → number (2 ^ 64) word ≡ None → number (2 ^ 32) word ≡ None
unfolding number
number-none word e = small-none (digits_value 10 word) (is_numeral word) e

-- a conversion that asks the value to be below a bound
pub converted-below : {E : Type 0} (bound n : ℕ) (r : Result ℕ E) → OkIff r (n < bound) n → result_ok r ≡ if_below bound n
converted-below bound n (Ok m) h = rw (lt-ltb n bound h.0) (ap Some h.1)
converted-below bound n (Err e) h =
    let large : bound ≤ n = omega (arith, h) in
    rw (le-ltb n bound large) refl
