-- The elements of a value, one after another.
use Rattle.std.proofs.Common.{◌≡◌, ℕ, Bool, List, [], ◌∷◌, not, length, map, take, codes, Option, None, Some, cond, ltb, unwrap_or, option_map, refl, sym, ap, ◌∙◌, arith, inl, inr}
use Rattle.std.specs.Option.{option_or}
use Rattle.std.specs.List.{fold, slice_split, position_or_len, after_first}
use Rattle.std.proofs.lemmas.Bool.{cases_lt}
use Rattle.std.proofs.lemmas.Bool.Decides.{nat_tests}
use Rattle.std.proofs.lemmas.List.{take_all}
use Rattle.std.proofs.lemmas.List.Sums.{prefix_len-le-length, fails_before_first}
use Rattle.std.proofs.lemmas.List.Splits.{slice_split_first, slice_split_none}
use Rattle.httparse.specs.Grammar.{trim_ows}
use Rattle.persistence.specs.Fields.{elements, is_comma, is_word, later_coding, last_coding}
use Rattle.persistence.specs.ReadingHeads.{chunked_after, FirstIs}

-- the coding that comes last decides
later : (known : Option (List ℕ)) (before : Option Bool) (coding : List ℕ)
    → option_or (option_map (is_word (codes "chunked")) known) (chunked_after before coding)
    ≡ option_or (option_map (is_word (codes "chunked")) (later_coding known coding)) before
later None before [] = refl
later None before (b ∷ coding) = refl
later (Some known) before coding = refl

-- a walk over the elements ends with what the last one says that is not empty
pub fold-chunked_after : (parts : List (List ℕ)) (before : Option Bool)
    → fold (λ known part. chunked_after known (trim_ows part)) before parts
    ≡ option_or (option_map (is_word (codes "chunked")) (last_coding (map trim_ows parts))) before
fold-chunked_after [] before = refl
fold-chunked_after (part ∷ parts) before =
    fold-chunked_after parts (chunked_after before (trim_ows part)) ∙ later (last_coding (map trim_ows parts)) before (trim_ows part)

pub option_or-None : {X : Type 0} (o : Option X) → option_or o None ≡ o
option_or-None None = refl
option_or-None (Some x) = refl

-- the first place that passes, or else the length
pub unwrap_or-position : {X : Type 0} (p : X → Bool) (xs : List X) (place : Option ℕ)
    → place ≡ cond (ltb (position_or_len p xs) (length xs)) (Some (position_or_len p xs)) None
    → unwrap_or place (length xs) ≡ position_or_len p xs
unwrap_or-position p xs place is = elim (cases_lt (position_or_len p xs) (length xs)) [
  | inl below ↦ grind (arith, nat_tests, below, is)
  | inr past ↦ grind (arith, nat_tests, past, is, prefix_len-le-length (λ x. not (p x)) xs)
]

-- a value without a comma is one element
pub elements_alone : (value : List ℕ) (place : ℕ) → place ≡ position_or_len is_comma value → place ≡ length value
    → elements value ≡ trim_ows (take place value) ∷ []
elements_alone value place is past =
    ap (map trim_ows) (slice_split_none is_comma value (λ k d h. fails_before_first is_comma value k d (omega (arith, is, past, h))))
    ∙ ap (λ v. trim_ows v ∷ []) (sym (take_all place value (omega (arith, past))))

-- what stands before the first comma is the first element
pub FirstIs-elements : (value : List ℕ) → FirstIs (elements value) (trim_ows (take (position_or_len is_comma value) value))
FirstIs-elements value = elim (cases_lt (position_or_len is_comma value) (length value)) [
  | inl below ↦ (map trim_ows (slice_split is_comma (after_first is_comma value)), ap (map trim_ows) (slice_split_first is_comma value 0 below))
  | inr past ↦ (
    [],
    ap (map trim_ows) (slice_split_none is_comma value (λ k d h. fails_before_first is_comma value k d (omega arith)))
        ∙ ap (λ v. trim_ows v ∷ []) (sym (take_all (position_or_len is_comma value) value past)),
  )
]
