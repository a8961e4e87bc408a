-- The words of a line, and the numbers that words are.
use Rattle.std.specs.Prelude.{ℕ, Bool, true, false, not, ◌&&◌, ◌==◌, nat_lt, if◌then◌else◌, List, [], ◌∷◌, length, filter, Option, Some, None}
use Rattle.std.specs.Option.{option_map}
use Rattle.std.specs.List.{slice_split, list_all}
use Rattle.std.specs.Char.{is_ascii_digit}
use Rattle.std.specs.Str.{bytes_eq}
use Rattle.std.specs.Str.Parse.{digits_value}

-- words: what one or more spaces separate
abbrev pub is_space : ℕ → Bool
is_space byte = byte == 32

abbrev pub has_bytes : List ℕ → Bool
has_bytes word = not (length word == 0)

unfoldable pub words : List ℕ → List (List ℕ)
words line = filter has_bytes (slice_split is_space line)

abbrev pub is_none_left : List (List ℕ) → Bool
is_none_left [] = true
is_none_left (word ∷ others) = false

-- a number: one or more decimal digits, leading zeros too, whose value is below a bound
abbrev pub is_numeral : List ℕ → Bool
is_numeral word = has_bytes word && list_all is_ascii_digit word

abbrev pub if_below : ℕ → ℕ → Option ℕ
if_below bound n = if nat_lt n bound then Some n else None

unfoldable pub number : ℕ → List ℕ → Option ℕ
number bound word = if is_numeral word then if_below bound (digits_value 10 word) else None

-- a number below the bound, and the words after it
abbrev pub number_first : ℕ → List (List ℕ) → Option (ℕ × List (List ℕ))
number_first bound [] = None
number_first bound (word ∷ others) = option_map (λ n. (n, others)) (number bound word)

-- the words after one that is that text
abbrev pub text_first : List ℕ → List (List ℕ) → Option (List (List ℕ))
text_first text [] = None
text_first text (word ∷ others) = if bytes_eq word text then Some others else None
