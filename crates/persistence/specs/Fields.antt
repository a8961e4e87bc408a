-- What the fields of a head say: the connection options (RFC 9110, section 7.6.1), the transfer codings
-- (RFC 9112, section 6.1) and the lengths (RFC 9110, section 8.6, and RFC 9112, section 6.3).
use Rattle.std.specs.Char.{is_ascii_digit}
use Rattle.std.specs.List.{flat_map, filter, list_all, list_any, slice_split}
use Rattle.std.specs.Prelude.{ℕ, Bool, false, ◌&&◌, ◌==◌, nat_lt, nat_le, if◌then◌else◌, List, [], ◌∷◌, length, map, codes, Option, Some, None}
use Rattle.std.specs.Str.{str_eq_ignore_ascii_case}
use Rattle.std.specs.Str.Parse.{digits_value}
use Rattle.httparse.specs.Grammar.{ResponseHead, trim_ows}
use Rattle.httparse.specs.Spans.{name_and_value}
use Rattle.persistence.specs.Limits.{most_bytes}

-- a field's name, and its value without the white space around it
abbrev pub NameAndValue : Type 0
NameAndValue = List ℕ × List ℕ

-- the fields of a head
abbrev pub fields_of : ResponseHead → List NameAndValue
fields_of head = map name_and_value head.fields

-- names are compared without case (RFC 9110, section 5.1)
abbrev pub is_named : List ℕ → NameAndValue → Bool
is_named name field = str_eq_ignore_ascii_case field.0 name

-- there is a field of that name
abbrev pub has_field : List ℕ → List NameAndValue → Bool
has_field name fields = list_any (is_named name) fields

abbrev pub is_comma : ℕ → Bool
is_comma b = b == 44

-- the elements of a value: what stands between its commas, without the spaces and tabs around it
-- (RFC 9110, section 5.6.1)
abbrev pub elements : List ℕ → List (List ℕ)
elements value = map trim_ows (slice_split is_comma value)

-- all fields of a name form one list (RFC 9110, section 5.3)
abbrev pub elements_of : List ℕ → List NameAndValue → List (List ℕ)
elements_of name fields = flat_map (λ (field : NameAndValue). elements field.1) (filter (is_named name) fields)

-- the element is that word, without case
abbrev pub is_word : List ℕ → List ℕ → Bool
is_word word element = str_eq_ignore_ascii_case element word

-- the connection option is there (RFC 9110, section 7.6.1)
abbrev pub has_option : List ℕ → List NameAndValue → Bool
has_option option fields = list_any (is_word option) (elements_of (codes "connection") fields)

-- the final transfer coding: the last element that is not empty
abbrev pub later_coding : Option (List ℕ) → List ℕ → Option (List ℕ)
later_coding (Some coding) element = Some coding
later_coding None [] = None
later_coding None (b ∷ element) = Some (b ∷ element)

abbrev pub last_coding : List (List ℕ) → Option (List ℕ)
last_coding [] = None
last_coding (element ∷ others) = later_coding (last_coding others) element

-- the coding is chunked, without case (RFC 9112, section 7)
abbrev pub is_chunked_coding : Option (List ℕ) → Bool
is_chunked_coding None = false
is_chunked_coding (Some coding) = is_word (codes "chunked") coding

-- there is a Transfer-Encoding field
abbrev pub has_transfer_encoding : List NameAndValue → Bool
has_transfer_encoding fields = has_field (codes "transfer-encoding") fields

-- its final coding is chunked
abbrev pub is_chunked_last : List NameAndValue → Bool
is_chunked_last fields = is_chunked_coding (last_coding (elements_of (codes "transfer-encoding") fields))

-- there is a Content-Length field
abbrev pub has_content_length : List NameAndValue → Bool
has_content_length fields = has_field (codes "content-length") fields

-- the element is that number: one or more digits (RFC 9110, section 8.6)
abbrev pub is_number : ℕ → List ℕ → Bool
is_number n element = nat_lt 0 (length element) && list_all is_ascii_digit element && digits_value 10 element == n

-- the one number that all elements are, where it is not too great (RFC 9112, section 6.3, item 5; an
-- empty element is none)
abbrev pub one_number : List (List ℕ) → Option ℕ
one_number [] = None
one_number (element ∷ others) =
    let n = digits_value 10 element in
    if nat_le n most_bytes && list_all (is_number n) (element ∷ others) then Some n else None

-- the number of bytes that the Content-Length fields give
abbrev pub counted_length : List NameAndValue → Option ℕ
counted_length fields = one_number (elements_of (codes "content-length") fields)

-- there are a Transfer-Encoding and a Content-Length field (RFC 9112, section 6.3, item 3)
abbrev pub has_both_lengths : List NameAndValue → Bool
has_both_lengths fields = has_transfer_encoding fields && has_content_length fields
