-- What is known of the fields of a head that were read so far. No public contract needs these words.
use Rattle.std.specs.Prelude.{◌≡◌, ℕ, Bool, true, false, ◌||◌, if◌then◌else◌, List, [], ◌∷◌, ◌++◌, codes, Option, None, Some}
use Rattle.std.specs.List.{list_all}
use Rattle.persistence.specs.declared.head.fields.ControlFields.{ControlFields}
use Rattle.persistence.specs.Fields.{NameAndValue, has_option, has_transfer_encoding, is_chunked_last, has_content_length, counted_length, is_number, is_word, one_number}

-- what the fields say
pub record TellsFields (fields : List NameAndValue) (told : ControlFields) : Type 0 where
  pub close : told.close ≡ has_option (codes "close") fields
  pub keep_alive : told.keep_alive ≡ has_option (codes "keep-alive") fields
  pub transfer_encoding : told.transfer_encoding ≡ has_transfer_encoding fields
  pub chunked : told.chunked ≡ is_chunked_last fields
  pub content_length : told.content_length ≡ has_content_length fields
  pub counted : told.counted ≡ counted_length fields

-- what fields say, and what they say with that one after them
abbrev pub AddsField : ControlFields → NameAndValue → ControlFields → Type 0
AddsField before field after =
    (fields : List NameAndValue) → TellsFields fields before → TellsFields (fields ++ field ∷ []) after

-- what fields say with that connection option
abbrev pub adds_option : ControlFields → List ℕ → ControlFields
adds_option told option = record told {
  close = told.close || is_word (codes "close") option;
  keep_alive = told.keep_alive || is_word (codes "keep-alive") option;
}

-- the one number of all elements of a list, where that of those before is known, if there are any
abbrev pub number_with : Bool → Option ℕ → List (List ℕ) → Option ℕ
number_with false before elements = one_number elements
number_with true None elements = None
number_with true (Some n) elements = if list_all (is_number n) elements then Some n else None
