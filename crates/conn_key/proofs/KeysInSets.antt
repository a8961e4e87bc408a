-- Keys in a set: one more, and one in the place of another.
use Rattle.std.proofs.Common.{◌≡◌, ℕ, ◌+◌, ◌-◌, ◌<◌, List, [], ◌∷◌, ◌++◌, length, map, get_or, take, slice_get, Option, Some, None, String, refl, sym, ap, ◌∙◌, arith, length-set}
use Rattle.std.specs.List.{list_any, position, swap_remove}
use Rattle.std.specs.Prelude.{bytes_eq, slice_set, string_bytes}
use Rattle.std.specs.Option.{IfSome}
use Rattle.std.specs.String.{string_eq}
use Rattle.std.proofs.lemmas.Bool.{cond-false}
use Rattle.std.proofs.lemmas.List.{length-map, get_or-map, get_or_push, length_push, map-set, map_push, set-append_left, take-map, take_at}
use Rattle.std.proofs.lemmas.Option.{slice_get-get_or}
use Rattle.indexmap.specs.IndexSet.{insert_key}
use Rattle.conn_key.proofs.Positions.{none_at_all, position-map}

-- a new key goes last
pub new_goes_last : {A : Type 0} (keys : List (String A)) (key : String A) (text : List ℕ) → string_bytes key ≡ text → position (bytes_eq text) (map string_bytes keys) ≡ None
    → map string_bytes (insert_key string_eq keys key) ≡ map string_bytes keys ++ text ∷ []
new_goes_last keys key text is none =
    let absent : position (string_eq key) keys ≡ None =
    sym (position-map (bytes_eq (string_bytes key)) string_bytes keys) ∙ ap (λ (t : List ℕ). position (bytes_eq t) (map string_bytes keys)) is ∙ none in
    ap (map string_bytes) (cond-false (list_any (string_eq key) keys) keys (keys ++ key ∷ []) (none_at_all (string_eq key) keys absent))
    ∙ map_push string_bytes keys key ∙ ap (λ (t : List ℕ). map string_bytes keys ++ t ∷ []) is

-- the last one takes the place of one that is removed
last_takes_its_place : {X : Type 0} (xs : List X) (i : ℕ) (y last : X) → i < length xs → last ≡ y → take (length xs) (slice_set (xs ++ y ∷ []) i last) ≡ slice_set xs i y
last_takes_its_place xs i y last there is =
    ap (λ x. take (length xs) (slice_set (xs ++ y ∷ []) i x)) is
    ∙ ap (take (length xs)) (set-append_left xs (y ∷ []) i y there)
    ∙ take_at (slice_set xs i y) (y ∷ []) (length xs) (length-set xs i y)

pub new_takes_the_place : {A : Type 0} (old : List (List ℕ)) (keys : List (String A)) (text : List ℕ) (i : ℕ) (d : String A)
    → map string_bytes keys ≡ old ++ text ∷ [] → i < length old → map string_bytes (swap_remove keys i d) ≡ slice_set old i text
new_takes_the_place old keys text i d is there =
    let size : length keys ≡ length old + 1 = sym (length-map keys string_bytes) ∙ ap length is ∙ length_push old text in
    let last : string_bytes (get_or keys (length keys - 1) d) ≡ text =
    sym (get_or-map string_bytes keys (length keys - 1) d text (omega (arith, size)))
    ∙ ap (λ (ts : List (List ℕ)). get_or ts (length keys - 1) text) is
    ∙ ap (λ (n : ℕ). get_or (old ++ text ∷ []) n text) (omega (arith, size))
    ∙ get_or_push old text text (length old) refl in
    sym (take-map string_bytes (length keys - 1) (slice_set keys i (get_or keys (length keys - 1) d)))
    ∙ ap (take (length keys - 1)) (map-set string_bytes keys i (get_or keys (length keys - 1) d))
    ∙ ap (λ (ts : List (List ℕ)). take (length keys - 1) (slice_set ts i (string_bytes (get_or keys (length keys - 1) d)))) is
    ∙ ap (λ (n : ℕ). take n (slice_set (old ++ text ∷ []) i (string_bytes (get_or keys (length keys - 1) d)))) (omega (arith, size))
    ∙ last_takes_its_place old i text (string_bytes (get_or keys (length keys - 1) d)) there last

-- the same by what the removal answers
pub removed_by : {A : Type 0} (old : List (List ℕ)) (keys new : List (String A)) (text : List ℕ) (i : ℕ) (removed : Option (String A))
    → map string_bytes keys ≡ old ++ text ∷ [] → i < length old → removed ≡ slice_get keys i → IfSome removed (λ key. new ≡ swap_remove keys i key)
    → map string_bytes new ≡ slice_set old i text
removed_by old keys new text i (Some key) is there got removes = ap (map string_bytes) removes ∙ new_takes_the_place old keys text i key is there
removed_by old [] new text i None is there got removes = absurd (omega (arith, ap length is, length_push old text))
removed_by old (key ∷ keys) new text i None is there got removes =
    let size : length (key ∷ keys) ≡ length old + 1 = sym (length-map (key ∷ keys) string_bytes) ∙ ap length is ∙ length_push old text in
    let stands = slice_get-get_or (key ∷ keys) i key (omega (arith, size)) in
    absurd (cc)
