-- What a hole of eight places writes.
use Rattle.std.proofs.Common.{◌≡◌, ℕ, zero, suc, ◌+◌, ◌-◌, ◌^◌, ◌<◌, List, ◌∷◌, ◌++◌, refl, sym, ◌∙◌, ap, length, replicate, take, get_or, flat_map, arith, append-nil, append_assoc}
use Rattle.std.proofs.lemmas.List.{flat_map_more, take_more}
use Rattle.std.specs.Char.{encode_utf8}
use Rattle.std.specs.List.{repeat}
use Rattle.std.specs.Fmt.{decimal, styled_decimal, format_spec, padded_integral, char_count}
use Rattle.load_report.specs.Accounts.{in_places}

repeat_space : (count : ℕ) → repeat count (encode_utf8 32) ≡ replicate count 32
unfolding encode_utf8
repeat_space zero = refl
repeat_space (suc count) = ap (λ spaces. 32 ∷ spaces) (repeat_space count)

-- `{:>8}` writes a number in its places
pub hole_in_places : (number : ℕ) → styled_decimal (format_spec 32 3 0 8 (2 ^ 64 - 1)) number ≡ in_places number
unfolding in_places padded_integral char_count
hole_in_places number =
    let padding : ℕ = 8 - length (decimal number) in
    let before : 8 - length (decimal number) - 0 - 0 ≡ padding = omega arith in
    let after : padding - padding ≡ 0 = omega arith in
    rw (before, after, repeat_space padding) (simp append-nil)

-- one more number is written after those of the same line
pub number_written : (old label before new piece numbers : List ℕ) (index : ℕ) → index < length numbers → before ≡ old ++ (label ++ flat_map in_places (take index numbers)) → piece ≡ in_places (get_or numbers index 0)
    → new ≡ before ++ piece → new ≡ old ++ (label ++ flat_map in_places (take (index + 1) numbers))
number_written old label before new piece numbers index within so_far is written =
    let number : ℕ = get_or numbers index 0 in
    let front : List ℕ = label ++ flat_map in_places (take index numbers) in
    written
    ∙ (λ i. so_far i ++ is i)
    ∙ append_assoc old front (in_places number)
    ∙ ap (λ text. old ++ text) (flat_map_more in_places label (take index numbers) number)
    ∙ ap (λ shown. old ++ (label ++ flat_map in_places shown)) (sym (take_more numbers index 0 within))
