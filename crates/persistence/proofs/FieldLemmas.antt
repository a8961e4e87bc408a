-- What fields say, and what they say with one field more.
use Rattle.std.proofs.Common.{◌≡◌, ◌≢◌, ℕ, ◌≤◌, arith, inl, inr, Bool, true, false, ◌&&◌, ◌||◌, cond, nat_le, List, [], ◌∷◌, ◌++◌, length, map, codes, Option, None, Some, option_map, unwrap_or, refl, sym, ap, ◌∙◌}
use Rattle.std.specs.Option.{option_or}
use Rattle.std.specs.List.{filter, flat_map, fold, list_all, list_any}
use Rattle.std.specs.Char.{to_ascii_lowercase}
use Rattle.std.specs.Str.{str_to_ascii_lowercase}
use Rattle.std.specs.Str.Parse.{digits_value}
use Rattle.std.proofs.lemmas.Bool.{cases_lt}
use Rattle.std.proofs.lemmas.Bool.Decides.{nat_tests}
use Rattle.std.proofs.lemmas.List.{append-nil, length-map}
use Rattle.std.proofs.lemmas.List.Elements.{filter-append}
use Rattle.std.proofs.lemmas.List.Folds.{list_any-append, list_all-append}
use Rattle.std.proofs.lemmas.Grind.{flat_map-append}
use Rattle.std.proofs.lemmas.Slice.Eq.{bytes_eq-Decides}
use Rattle.httparse.specs.Grammar.{trim_ows}
use Rattle.persistence.specs.declared.head.fields.ControlFields.{ControlFields}
use Rattle.persistence.specs.Fields.{NameAndValue, is_named, has_field, has_option, elements, elements_of, is_word, later_coding, last_coding, is_chunked_coding, is_chunked_last, has_transfer_encoding, has_content_length, counted_length, is_number, one_number}
use Rattle.persistence.specs.Limits.{most_bytes}
use Rattle.persistence.specs.ReadingHeads.{FirstIs}
use Rattle.persistence.specs.ReadingFields.{TellsFields, adds_option, number_with}
use Rattle.persistence.proofs.ElementLemmas.{FirstIs-elements}

-- ---- names

-- a name of another length is another name
pub other_length : (name : List ℕ) (field : NameAndValue) → length field.0 ≢ length name → is_named name field ≡ false
other_length name field other = by_cases (is_named name field) refl
  where
    by_cases : (b : Bool) → is_named name field ≡ b → b ≡ false
    by_cases false e = refl
    by_cases true e =
        let same : str_to_ascii_lowercase field.0 ≡ str_to_ascii_lowercase name = (bytes_eq-Decides (str_to_ascii_lowercase field.0) (str_to_ascii_lowercase name)).0 e in
        absurd (other (sym (length-map field.0 to_ascii_lowercase) ∙ ap length same ∙ length-map name to_ascii_lowercase))

-- ---- one field more

no_more : (b : Bool) → b || false ≡ b
no_more true = refl
no_more false = refl

has_field-other : (name : List ℕ) (fields : List NameAndValue) (field : NameAndValue) → is_named name field ≡ false
    → has_field name (fields ++ field ∷ []) ≡ has_field name fields
has_field-other name fields field other =
    list_any-append (is_named name) fields (field ∷ []) ∙ ap (λ b. has_field name fields || (b || false)) other ∙ no_more (has_field name fields)

has_field-named : (name : List ℕ) (fields : List NameAndValue) (field : NameAndValue) → is_named name field ≡ true
    → has_field name (fields ++ field ∷ []) ≡ true
has_field-named name fields field named =
    list_any-append (is_named name) fields (field ∷ []) ∙ ap (λ b. has_field name fields || (b || false)) named ∙ always (has_field name fields)
  where
    always : (b : Bool) → b || true ≡ true
    always true = refl
    always false = refl

elements_of-after : (name : List ℕ) (fields : List NameAndValue) (field : NameAndValue)
    → elements_of name (fields ++ field ∷ []) ≡ elements_of name fields ++ cond (is_named name field) (elements field.1) []
elements_of-after name fields field =
    ap (flat_map (λ (f : NameAndValue). elements f.1)) (filter-append (is_named name) fields (field ∷ []))
    ∙ flat_map-append (λ (f : NameAndValue). elements f.1) (filter (is_named name) fields) (filter (is_named name) (field ∷ []))
    ∙ ap (λ (e : List (List ℕ)). elements_of name fields ++ e) (by_cases (is_named name field))
  where
    by_cases : (b : Bool) → flat_map (λ (f : NameAndValue). elements f.1) (cond b (field ∷ []) []) ≡ cond b (elements field.1) []
    by_cases true = append-nil (elements field.1)
    by_cases false = refl

elements_of-other : (name : List ℕ) (fields : List NameAndValue) (field : NameAndValue) → is_named name field ≡ false
    → elements_of name (fields ++ field ∷ []) ≡ elements_of name fields
elements_of-other name fields field other =
    elements_of-after name fields field
    ∙ ap (λ b. elements_of name fields ++ cond b (elements field.1) []) other
    ∙ append-nil (elements_of name fields)

elements_of-named : (name : List ℕ) (fields : List NameAndValue) (field : NameAndValue) → is_named name field ≡ true
    → elements_of name (fields ++ field ∷ []) ≡ elements_of name fields ++ elements field.1
elements_of-named name fields field named =
    elements_of-after name fields field ∙ ap (λ b. elements_of name fields ++ cond b (elements field.1) []) named

-- ---- transfer codings

-- the last coding of two lists
last_coding-append : (xs ys : List (List ℕ)) → last_coding (xs ++ ys) ≡ option_or (last_coding ys) (last_coding xs)
last_coding-append [] ys = none (last_coding ys)
  where
    none : (o : Option (List ℕ)) → o ≡ option_or o None
    none None = refl
    none (Some x) = refl
last_coding-append (x ∷ xs) ys = ap (λ o. later_coding o x) (last_coding-append xs ys) ∙ later (last_coding ys) (last_coding xs) x
  where
    later : (o p : Option (List ℕ)) (x : List ℕ) → later_coding (option_or o p) x ≡ option_or o (later_coding p x)
    later None p x = refl
    later (Some o) p x = refl

-- the last coding of a list is chunked, where more elements follow it
chunked-append : (xs ys : List (List ℕ))
    → is_chunked_coding (last_coding (xs ++ ys)) ≡ unwrap_or (option_map (is_word (codes "chunked")) (last_coding ys)) (is_chunked_coding (last_coding xs))
chunked-append xs ys = ap is_chunked_coding (last_coding-append xs ys) ∙ by_cases (last_coding ys)
  where
    by_cases : (o : Option (List ℕ)) → is_chunked_coding (option_or o (last_coding xs)) ≡ unwrap_or (option_map (is_word (codes "chunked")) o) (is_chunked_coding (last_coding xs))
    by_cases None = refl
    by_cases (Some coding) = refl

-- ---- connection options

-- what fields say, where the options are told in another way
options : (told : ControlFields) {a b c d : Bool} → a ≡ b → c ≡ d
    → ◌≡◌ {A = ControlFields} (record told { close = a; keep_alive = c }) (record told { close = b; keep_alive = d })
options told {a} {b} {c} {d} one other =
    ap (λ (o : Bool). told_with o c) one ∙ ap (λ (o : Bool). told_with b o) other
  where
    told_with : Bool → Bool → ControlFields
    told_with close keep_alive = record told { close = close; keep_alive = keep_alive }

-- a walk over elements ends with each option that is one of them
pub fold-adds_option : (parts : List (List ℕ)) (told : ControlFields)
    → fold (λ known part. adds_option known (trim_ows part)) told parts
    ≡ record told {
      close = told.close || list_any (is_word (codes "close")) (map trim_ows parts);
      keep_alive = told.keep_alive || list_any (is_word (codes "keep-alive")) (map trim_ows parts);
    }
fold-adds_option [] told = options told (sym (no_more told.close)) (sym (no_more told.keep_alive))
fold-adds_option (part ∷ parts) told =
    fold-adds_option parts (adds_option told (trim_ows part)) ∙ options told (in_turn told.close _ _) (in_turn told.keep_alive _ _)
  where
    in_turn : (a b c : Bool) → (a || b) || c ≡ a || (b || c)
    in_turn true b c = refl
    in_turn false b c = refl

-- ---- lengths

-- the number of a list whose first element is that number
pub one_number-first : (list : List (List ℕ)) (first : List ℕ) (n : ℕ) → FirstIs list first → is_number n first ≡ true → n ≤ most_bytes
    → one_number list ≡ cond (list_all (is_number n) list) (Some n) None
one_number-first list first n (others, begins) number fits =
    let value : digits_value 10 first ≡ n = grind (arith, nat_tests, number) in
    ap one_number begins
    ∙ ap (λ v. cond (nat_le v most_bytes && list_all (is_number v) (first ∷ others)) (Some v) None) value
    ∙ ap (λ b. cond (b && list_all (is_number n) (first ∷ others)) (Some n) None) {y = true} (grind (arith, nat_tests, fits))
    ∙ sym (ap (λ (l : List (List ℕ)). cond (list_all (is_number n) l) (Some n) None) begins)

-- a list of one number alone
pub one_number-alone : (list : List (List ℕ)) (only : List ℕ) (n : ℕ) → list ≡ only ∷ [] → is_number n only ≡ true → n ≤ most_bytes
    → one_number list ≡ Some n
one_number-alone list only n is number fits =
    one_number-first list only n ([], is) number fits
    ∙ ap (λ (l : List (List ℕ)). cond (list_all (is_number n) l) (Some n) None) is
    ∙ ap (λ b. cond (b && true) (Some n) None) number

-- a list whose first element is no number has none
pub one_number-none : (list : List (List ℕ)) (first : List ℕ) → FirstIs list first → ((n : ℕ) → n ≤ most_bytes → is_number n first ≡ false)
    → one_number list ≡ None
one_number-none list first (others, begins) none = ap one_number begins ∙ by_cases (digits_value 10 first)
  where
    by_cases : (n : ℕ) → cond (nat_le n most_bytes && list_all (is_number n) (first ∷ others)) (Some n) None ≡ None
    by_cases n = elim (cases_lt most_bytes n) [
      | inl over ↦ grind (arith, nat_tests, over)
      | inr fits ↦ ap (λ b. cond (nat_le n most_bytes && (b && list_all (is_number n) others)) (Some n) None) (none n fits) ∙ grind (arith, nat_tests, fits)
    ]

-- a list that has elements, where more follow it
one_number-append : (list more : List (List ℕ)) (first : List ℕ) → FirstIs list first → one_number (list ++ more) ≡ number_with true (one_number list) more
one_number-append list more first (others, begins) =
    ap (λ (l : List (List ℕ)). one_number (l ++ more)) begins
    ∙ ap (λ b. cond (nat_le (digits_value 10 first) most_bytes && b) (Some (digits_value 10 first)) None) (list_all-append (is_number (digits_value 10 first)) (first ∷ others) more)
    ∙ by_cases (nat_le (digits_value 10 first) most_bytes) (list_all (is_number (digits_value 10 first)) (first ∷ others)) (digits_value 10 first)
    ∙ sym (ap (λ (l : List (List ℕ)). number_with true (one_number l) more) begins)
  where
    by_cases : (a b : Bool) (n : ℕ) → cond (a && (b && list_all (is_number n) more)) (Some n) None ≡ number_with true (cond (a && b) (Some n) None) more
    by_cases true true n = refl
    by_cases true false n = refl
    by_cases false b n = refl

-- fields without the name have no elements
no_elements : (name : List ℕ) (fields : List NameAndValue) → has_field name fields ≡ false → elements_of name fields ≡ []
no_elements name [] none = refl
no_elements name (field ∷ fields) none = by_cases (no_elements name fields) (is_named name field) none
  where
    by_cases : (has_field name fields ≡ false → elements_of name fields ≡ []) → (b : Bool) → b || has_field name fields ≡ false
        → flat_map (λ (f : NameAndValue). elements f.1) (cond b (field ∷ filter (is_named name) fields) (filter (is_named name) fields)) ≡ []
    by_cases others true none = absurd (cc)
    by_cases others false none = others none

-- fields with the name have some
some_elements : (name : List ℕ) (fields : List NameAndValue) → has_field name fields ≡ true → (first : List ℕ) × FirstIs (elements_of name fields) first
some_elements name [] some = absurd (cc)
some_elements name (field ∷ fields) some = by_cases (some_elements name fields) (is_named name field) some
  where
    by_cases : (has_field name fields ≡ true → (first : List ℕ) × FirstIs (elements_of name fields) first) → (b : Bool) → b || has_field name fields ≡ true
        → (first : List ℕ) × FirstIs (flat_map (λ (f : NameAndValue). elements f.1) (cond b (field ∷ filter (is_named name) fields) (filter (is_named name) fields))) first
    by_cases others true some =
        let begins = FirstIs-elements field.1 in
        (_, (begins.0 ++ elements_of name fields, ap (λ (e : List (List ℕ)). e ++ elements_of name fields) begins.1))
    by_cases others false some = others some

counted-named : (fields : List NameAndValue) (field : NameAndValue) → is_named (codes "content-length") field ≡ true
    → counted_length (fields ++ field ∷ []) ≡ number_with (has_content_length fields) (counted_length fields) (elements field.1)
counted-named fields field named =
    ap one_number (elements_of-named (codes "content-length") fields field named) ∙ by_cases (has_content_length fields) refl
  where
    before : List (List ℕ)
    before = elements_of (codes "content-length") fields

    by_cases : (b : Bool) → has_content_length fields ≡ b → one_number (before ++ elements field.1) ≡ number_with b (one_number before) (elements field.1)
    by_cases false none = ap (λ (l : List (List ℕ)). one_number (l ++ elements field.1)) (no_elements (codes "content-length") fields none)
    by_cases true some =
        let first = some_elements (codes "content-length") fields some in
        one_number-append before (elements field.1) first.0 first.1

-- ---- what is told of one field more

module _ (fields : List NameAndValue) (field : NameAndValue) (told : ControlFields) (tells : TellsFields fields told) where
  option_kept : (option : List ℕ) (before : Bool) → before ≡ has_option option fields → is_named (codes "connection") field ≡ false
      → before ≡ has_option option (fields ++ field ∷ [])
  option_kept option before known other = known ∙ sym (ap (list_any (is_word option)) (elements_of-other (codes "connection") fields field other))

  option_added : (option : List ℕ) (before word : Bool) → before ≡ has_option option fields → is_named (codes "connection") field ≡ true
      → word ≡ list_any (is_word option) (elements field.1) → before || word ≡ has_option option (fields ++ field ∷ [])
  option_added option before word known named is =
      ap (λ b. b || word) known ∙ ap (λ b. has_option option fields || b) is
      ∙ sym (ap (list_any (is_word option)) (elements_of-named (codes "connection") fields field named)
      ∙ list_any-append (is_word option) (elements_of (codes "connection") fields) (elements field.1))

  transfer_kept : is_named (codes "transfer-encoding") field ≡ false → told.transfer_encoding ≡ has_transfer_encoding (fields ++ field ∷ [])
  transfer_kept other = tells.transfer_encoding ∙ sym (has_field-other (codes "transfer-encoding") fields field other)

  chunked_kept : is_named (codes "transfer-encoding") field ≡ false → told.chunked ≡ is_chunked_last (fields ++ field ∷ [])
  chunked_kept other = tells.chunked ∙ sym (ap (λ (e : List (List ℕ)). is_chunked_coding (last_coding e)) (elements_of-other (codes "transfer-encoding") fields field other))

  length_kept : is_named (codes "content-length") field ≡ false → told.content_length ≡ has_content_length (fields ++ field ∷ [])
  length_kept other = tells.content_length ∙ sym (has_field-other (codes "content-length") fields field other)

  counted_kept : is_named (codes "content-length") field ≡ false → told.counted ≡ counted_length (fields ++ field ∷ [])
  counted_kept other = tells.counted ∙ sym (ap one_number (elements_of-other (codes "content-length") fields field other))

  -- the field has none of the names
  pub other_added : is_named (codes "connection") field ≡ false → is_named (codes "content-length") field ≡ false
      → is_named (codes "transfer-encoding") field ≡ false → TellsFields (fields ++ field ∷ []) told
  other_added connection content_length transfer_encoding = record {
    close = option_kept (codes "close") told.close tells.close connection;
    keep_alive = option_kept (codes "keep-alive") told.keep_alive tells.keep_alive connection;
    transfer_encoding = transfer_kept transfer_encoding;
    chunked = chunked_kept transfer_encoding;
    content_length = length_kept content_length;
    counted = counted_kept content_length;
  }

  pub connection_added : (close keep_alive : Bool) → is_named (codes "connection") field ≡ true
      → is_named (codes "content-length") field ≡ false → is_named (codes "transfer-encoding") field ≡ false
      → close ≡ list_any (is_word (codes "close")) (elements field.1) → keep_alive ≡ list_any (is_word (codes "keep-alive")) (elements field.1)
      → TellsFields (fields ++ field ∷ []) (record told { close = told.close || close; keep_alive = told.keep_alive || keep_alive })
  connection_added close keep_alive named content_length transfer_encoding is_close is_keep_alive = record {
    close = option_added (codes "close") told.close close tells.close named is_close;
    keep_alive = option_added (codes "keep-alive") told.keep_alive keep_alive tells.keep_alive named is_keep_alive;
    transfer_encoding = transfer_kept transfer_encoding;
    chunked = chunked_kept transfer_encoding;
    content_length = length_kept content_length;
    counted = counted_kept content_length;
  }

  pub content_length_added : (counted : Option ℕ) → is_named (codes "content-length") field ≡ true
      → is_named (codes "connection") field ≡ false → is_named (codes "transfer-encoding") field ≡ false
      → counted ≡ number_with told.content_length told.counted (elements field.1)
      → TellsFields (fields ++ field ∷ []) (record told { content_length = true; counted = counted })
  content_length_added counted named connection transfer_encoding is = record {
    close = option_kept (codes "close") told.close tells.close connection;
    keep_alive = option_kept (codes "keep-alive") told.keep_alive tells.keep_alive connection;
    transfer_encoding = transfer_kept transfer_encoding;
    chunked = chunked_kept transfer_encoding;
    content_length = sym (has_field-named (codes "content-length") fields field named);
    counted = is
        ∙ ap (λ b. number_with b told.counted (elements field.1)) tells.content_length
        ∙ ap (λ (o : Option ℕ). number_with (has_content_length fields) o (elements field.1)) tells.counted
        ∙ sym (counted-named fields field named);
  }

  pub transfer_encoding_added : (chunked : Bool) → is_named (codes "transfer-encoding") field ≡ true
      → is_named (codes "connection") field ≡ false → is_named (codes "content-length") field ≡ false
      → chunked ≡ unwrap_or (option_map (is_word (codes "chunked")) (last_coding (elements field.1))) told.chunked
      → TellsFields (fields ++ field ∷ []) (record told { transfer_encoding = true; chunked = chunked })
  transfer_encoding_added chunked named connection content_length is = record {
    close = option_kept (codes "close") told.close tells.close connection;
    keep_alive = option_kept (codes "keep-alive") told.keep_alive tells.keep_alive connection;
    transfer_encoding = sym (has_field-named (codes "transfer-encoding") fields field named);
    chunked = is
        ∙ ap (unwrap_or (option_map (is_word (codes "chunked")) (last_coding (elements field.1)))) tells.chunked
        ∙ sym (ap (λ (e : List (List ℕ)). is_chunked_coding (last_coding e)) (elements_of-named (codes "transfer-encoding") fields field named)
        ∙ chunked-append (elements_of (codes "transfer-encoding") fields) (elements field.1));
    content_length = length_kept content_length;
    counted = counted_kept content_length;
  }
