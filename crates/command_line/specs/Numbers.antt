-- Numbers on the command line: decimal digits, durations, percentages.
use Rattle.std.specs.Prelude.{◌+◌, ◌*◌, ◌-◌, ◌^◌, ◌==◌, ◌&&◌, ◌≡◌, ℕ, Bool, nat_le, nat_lt, codes, length, take, Option, None, Some, if◌then◌else◌}
use Rattle.std.specs.List.{before_first, after_first, last_or, position_or_len}
use Rattle.std.specs.Option.{option_and_then, option_map}
use Rattle.clap.specs.Words.{Text}
use Rattle.streams.specs.Words.{number}

abbrev pub if_in : ℕ → ℕ → ℕ → Option ℕ
if_in least greatest n = if nat_le least n && nat_le n greatest then Some n else None

-- a number in a range, as decimal digits
abbrev pub whole_in : ℕ → ℕ → Text → Option ℕ
whole_in least greatest text = option_and_then (if_in least greatest) (number (2 ^ 64) text)

-- a duration: digits and a unit, h (104, hours), m (109, minutes) or s (115, seconds), or digits alone, for seconds
abbrev pub if_fits : ℕ → ℕ → Option ℕ
if_fits unit n = if nat_lt (n * unit) (2 ^ 64) then Some (n * unit) else None

abbrev pub seconds_with : ℕ → Text → Option ℕ
seconds_with unit digits = option_and_then (if_fits unit) (number (2 ^ 64) digits)

abbrev pub seconds_at : ℕ → Text → Text → Option ℕ
seconds_at last digits text =
    if last == 104 then seconds_with 3600 digits
    else (if last == 109 then seconds_with 60 digits
    else (if last == 115 then number (2 ^ 64) digits else number (2 ^ 64) text))

abbrev pub seconds_by : Option ℕ → Text → Option ℕ
seconds_by None text = None
seconds_by (Some last) text = seconds_at last (take (length text - 1) text) text

abbrev pub seconds_in : Text → Option ℕ
seconds_in text = seconds_by (last_or None text) text

-- a percentage in hundredths: at most 100, with at most two decimals
abbrev pub is_dot : ℕ → Bool
is_dot byte = byte == 46

abbrev pub decimals_in : Text → Option ℕ
decimals_in text =
    if length text == 1 then option_map (λ n. n * 10) (number (2 ^ 64) text)
    else (if length text == 2 then number (2 ^ 64) text else None)

abbrev pub if_percent : ℕ → ℕ → Option ℕ
if_percent decimals whole = if nat_le (whole * 100 + decimals) 10000 then Some (whole * 100 + decimals) else None

abbrev pub percent_with : Text → ℕ → Option ℕ
percent_with whole decimals = option_and_then (if_percent decimals) (number (2 ^ 64) whole)

abbrev pub percent_in : Text → Option ℕ
percent_in text =
    if nat_lt (position_or_len is_dot text) (length text)
    then option_and_then (percent_with (before_first is_dot text)) (decimals_in (after_first is_dot text))
    else percent_with text 0

-- small texts
abbrev pub ReadsPercentages : Type 0
ReadsPercentages = (percent_in (codes "0") ≡ Some 0) × (percent_in (codes "0.5") ≡ Some 50)
    × (percent_in (codes "12.34") ≡ Some 1234) × (percent_in (codes "100.00") ≡ Some 10000)

abbrev pub RefusesPercentages : Type 0
RefusesPercentages = (percent_in (codes "100.01") ≡ None) × (percent_in (codes "101") ≡ None)
    × (percent_in (codes "1.234") ≡ None) × (percent_in (codes "1.") ≡ None) × (percent_in (codes ".5") ≡ None)

abbrev pub ReadsDurations : Type 0
ReadsDurations = (seconds_in (codes "10") ≡ Some 10) × (seconds_in (codes "10s") ≡ Some 10)
    × (seconds_in (codes "5m") ≡ Some 300) × (seconds_in (codes "1h") ≡ Some 3600)

abbrev pub RefusesDurations : Type 0
RefusesDurations = (seconds_in (codes "") ≡ None) × (seconds_in (codes "s") ≡ None) × (seconds_in (codes "1d") ≡ None)
    × (seconds_in (codes "1m30s") ≡ None) × (seconds_in (codes "18446744073709551615m") ≡ None)
