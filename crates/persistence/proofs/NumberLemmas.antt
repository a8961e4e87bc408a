-- What digits write.
use Rattle.std.proofs.Common.{◌≡◌, ℕ, ◌+◌, ◌*◌, ◌<◌, ◌≤◌, true, List, [], ◌∷◌, length, get_or, drop, arith}
use Rattle.std.specs.List.{list_all}
use Rattle.std.specs.Char.{digit_value, is_ascii_digit}
use Rattle.std.specs.Str.Parse.{AllDigits, digits_value_after}
use Rattle.std.proofs.lemmas.List.{drop_more}
use Rattle.std.proofs.Math.Nat.{mul-le-mul_left}
use Rattle.std.proofs.lemmas.Bool.Decides.{nat_tests}

-- more digits never write less
pub digits_value_after-le : (radix n : ℕ) (ds : List ℕ) → 1 ≤ radix → n ≤ digits_value_after radix n ds
digits_value_after-le radix n [] some = omega arith
digits_value_after-le radix n (c ∷ cs) some =
    omega (arith, mul-le-mul_left n some, digits_value_after-le radix (n * radix + digit_value c) cs some)

-- decimal digits are digits
pub AllDigits-from_list_all : (ds : List ℕ) → list_all is_ascii_digit ds ≡ true → AllDigits 10 ds
AllDigits-from_list_all [] all = tt
AllDigits-from_list_all (c ∷ cs) all = (grind (arith, nat_tests), AllDigits-from_list_all cs (grind (arith, nat_tests)))

-- what is left to read writes at least the number so far, one digit on
pub digits_value_after-drop : (radix n i : ℕ) (ds : List ℕ) → 1 ≤ radix → i < length ds
    → n * radix + digit_value (get_or ds i 0) ≤ digits_value_after radix n (drop i ds)
digits_value_after-drop radix n i ds some below =
    rw (drop_more ds i 0 below) (digits_value_after-le radix (n * radix + digit_value (get_or ds i 0)) (drop (i + 1) ds) some)
