-- The size that the words of a chunk's line write, as the code reads it.
use Rattle.std.proofs.Common.{◌≡◌, ℕ, ◌<◌, ◌≤◌, Bool, true, false, not, List, [], ◌∷◌, ◌++◌, length, take, drop, Option, None, Some, refl, sym, ap, subst, ◌∙◌, arith, suc, ◌-◌, IfSome, IfNone}
use Rattle.std.specs.Option.{MatchOption}
use Rattle.std.specs.List.{position_or_len}
use Rattle.std.specs.Char.{is_ascii_hexdigit}
use Rattle.std.specs.Str.Parse.{AllDigits, digits_value}
use Rattle.std.proofs.lemmas.Bool.Decides.{nat_tests}
use Rattle.std.proofs.lemmas.List.{take_at, drop_at, take-append-drop, take_rest}
use Rattle.std.proofs.lemmas.List.Elements.{All-head, All-tail, All-nil, All-cons}
use Rattle.httparse.specs.Grammar.{AllPass, is_ows, skip_ows, is_extension_byte, print_extension}
use Rattle.persistence.specs.ReadingChunks.{IsWrittenSize, begins_extension}

-- where the digits end
abbrev pub digits_place : List ℕ → ℕ
digits_place words = position_or_len (λ b. not (is_ascii_hexdigit b)) words

digits_before_cons : (b : ℕ) (words : List ℕ) (t : Bool) → is_ascii_hexdigit b ≡ t → AllPass is_ascii_hexdigit (take (digits_place words) words)
    → AllPass is_ascii_hexdigit (take (digits_place (b ∷ words)) (b ∷ words))
digits_before_cons b words true e rest =
    let place : digits_place (b ∷ words) ≡ suc (digits_place words) = grind (arith, nat_tests, e) in
    subst (λ n. AllPass is_ascii_hexdigit (take n (b ∷ words))) (sym place) (All-cons (λ v. is_ascii_hexdigit v ≡ true) b (take (digits_place words) words) e rest)
digits_before_cons b words false e rest =
    let place : digits_place (b ∷ words) ≡ 0 = grind (arith, nat_tests, e) in
    subst (λ n. AllPass is_ascii_hexdigit (take n (b ∷ words))) (sym place) (All-nil (λ v. is_ascii_hexdigit v ≡ true))

-- the digits before that place
pub digits_before : (words : List ℕ) → AllPass is_ascii_hexdigit (take (digits_place words) words)
digits_before [] = All-nil (λ v. is_ascii_hexdigit v ≡ true)
digits_before (b ∷ words) = digits_before_cons b words (is_ascii_hexdigit b) refl (digits_before words)

-- digits are digits
pub AllDigits-from_AllPass : (ds : List ℕ) → AllPass is_ascii_hexdigit ds → AllDigits 16 ds
AllDigits-from_AllPass [] pass = tt
AllDigits-from_AllPass (c ∷ cs) pass =
    let first = All-head (λ v. is_ascii_hexdigit v ≡ true) c cs pass in
    (grind (arith, nat_tests, first), AllDigits-from_AllPass cs (All-tail (λ v. is_ascii_hexdigit v ≡ true) c cs pass))

-- spaces and tabs, and what follows them
ows_split : (xs : List ℕ) → (pad : List ℕ) × AllPass is_ows pad × (xs ≡ pad ++ skip_ows xs)
ows_split [] = ([], All-nil (λ v. is_ows v ≡ true), refl)
ows_split (b ∷ xs) = by_case (is_ows b) refl (ows_split xs)
  where
    by_case : (t : Bool) → is_ows b ≡ t → (pad : List ℕ) × AllPass is_ows pad × (xs ≡ pad ++ skip_ows xs) → (pad : List ℕ) × AllPass is_ows pad × (b ∷ xs ≡ pad ++ skip_ows (b ∷ xs))
    by_case true e (pad, pass, is) =
        (b ∷ pad, All-cons (λ v. is_ows v ≡ true) b pad e pass, (let f : skip_ows (b ∷ xs) ≡ skip_ows xs = grind (arith, nat_tests, e) in ap (λ (t : List ℕ). b ∷ t) is ∙ ap (λ (t : List ℕ). (b ∷ pad) ++ t) (sym f)))
    by_case false e rest = ([], All-nil (λ v. is_ows v ≡ true), (let f : skip_ows (b ∷ xs) ≡ b ∷ xs = grind (arith, nat_tests, e) in sym f))

-- the end of a run passes as well
back_passes : (test : ℕ → Bool) (a b : List ℕ) → AllPass test (a ++ b) → AllPass test b
back_passes test [] b pass = pass
back_passes test (x ∷ a) b pass = back_passes test a b (All-tail (λ v. test v ≡ true) x (a ++ b) pass)

-- what is read is written
pub written : (words : List ℕ) → AllPass is_extension_byte words → 0 < length (take (digits_place words) words)
    → begins_extension (skip_ows (drop (digits_place words) words)) ≡ true → IsWrittenSize words (digits_value 16 (take (digits_place words) words))
written words pass some begins = go (ows_split (drop (digits_place words) words))
  where
    digits : List ℕ
    digits = take (digits_place words) words

    go : (pad : List ℕ) × AllPass is_ows pad × (drop (digits_place words) words ≡ pad ++ skip_ows (drop (digits_place words) words)) → IsWrittenSize words (digits_value 16 (take (digits_place words) words))
    go (pad, blank, is) = ends (skip_ows (drop (digits_place words) words)) refl begins
      where
        whole : words ≡ take (digits_place words) words ++ (pad ++ skip_ows (drop (digits_place words) words))
        whole = sym (take-append-drop (digits_place words) words) ∙ ap (λ (t : List ℕ). take (digits_place words) words ++ t) is

        ends : (rest : List ℕ) → skip_ows (drop (digits_place words) words) ≡ rest → begins_extension rest ≡ true → IsWrittenSize words (digits_value 16 (take (digits_place words) words))
        ends [] e b = record {
          digits = take (digits_place words) words;
          pad = pad;
          extension = None;
          some = some;
          valid = digits_before words;
          blank = blank;
          rest = tt;
          is = whole ∙ ap (λ (t : List ℕ). take (digits_place words) words ++ (pad ++ t)) e;
          gives = refl;
        }
        ends (x ∷ text) e b =
            let first : x ≡ 59 = grind (arith, nat_tests, b) in
            let is' : words ≡ take (digits_place words) words ++ (pad ++ 59 ∷ text) = whole ∙ ap (λ (t : List ℕ). take (digits_place words) words ++ (pad ++ t)) (e ∙ ap (λ y. y ∷ text) first) in
            record {
              digits = take (digits_place words) words;
              pad = pad;
              extension = Some text;
              some = some;
              valid = digits_before words;
              blank = blank;
              rest = back_passes is_extension_byte (59 ∷ []) text (back_passes is_extension_byte pad (59 ∷ text) (back_passes is_extension_byte (take (digits_place words) words) (pad ++ 59 ∷ text) (subst (AllPass is_extension_byte) is' pass)));
              is = is';
              gives = refl;
            }

-- digits end where the pad or the extension begins
place_is : (digits others : List ℕ) → AllPass is_ascii_hexdigit digits → digits_place others ≡ 0 → digits_place (digits ++ others) ≡ length digits
place_is [] others pass e = e
place_is (b ∷ digits) others pass e =
    let first = All-head (λ v. is_ascii_hexdigit v ≡ true) b digits pass in
    let rest = place_is digits others (All-tail (λ v. is_ascii_hexdigit v ≡ true) b digits pass) e in
    grind (arith, nat_tests, first, rest)

no_digits : (pad : List ℕ) → AllPass is_ows pad → (extension : Option (List ℕ)) → digits_place (pad ++ print_extension extension) ≡ 0
no_digits [] pass None = refl
no_digits [] pass (Some text) = refl
no_digits (b ∷ pad) pass extension = let first = All-head (λ v. is_ows v ≡ true) b pad pass in grind (arith, nat_tests, first)

skip_pad : (pad : List ℕ) → AllPass is_ows pad → (extension : Option (List ℕ)) → skip_ows (pad ++ print_extension extension) ≡ print_extension extension
skip_pad [] pass None = refl
skip_pad [] pass (Some text) = refl
skip_pad (b ∷ pad) pass extension =
    let first = All-head (λ v. is_ows v ≡ true) b pad pass in
    let rest = skip_pad pad (All-tail (λ v. is_ows v ≡ true) b pad pass) extension in
    grind (arith, nat_tests, first, rest)

-- what is written is read
pub read_back : (words : List ℕ) (n : ℕ) → IsWrittenSize words n
    → (0 < digits_place words) × (digits_value 16 (take (digits_place words) words) ≡ n) × (begins_extension (skip_ows (drop (digits_place words) words)) ≡ true)
read_back words n w =
    let others = w.pad ++ print_extension w.extension in
    let place : digits_place words ≡ length w.digits = ap digits_place w.is ∙ place_is w.digits others w.valid (no_digits w.pad w.blank w.extension) in
    let front : take (digits_place words) words ≡ w.digits = ap (take (digits_place words)) w.is ∙ take_at w.digits others (digits_place words) (sym place) in
    let back : drop (digits_place words) words ≡ others = ap (drop (digits_place words)) w.is ∙ drop_at w.digits others (digits_place words) (sym place) in
    (omega (arith, place, w.some), ap (digits_value 16) front ∙ w.gives, ap (λ (t : List ℕ). begins_extension (skip_ows t)) back ∙ ap begins_extension (skip_pad w.pad w.blank w.extension) ∙ begins w.extension)
  where
    begins : (extension : Option (List ℕ)) → begins_extension (print_extension extension) ≡ true
    begins None = refl
    begins (Some text) = refl

-- the words from a place on, as the code cuts them
pub rest_of : (words : List ℕ) (end : ℕ) → end ≡ digits_place words → take (length words - end) (drop end words) ≡ drop (digits_place words) words
rest_of words end e = take_rest words end ∙ ap (λ n. drop n words) e

-- what the value of the digits says
pub found_of : (words : List ℕ) (room v : ℕ) (r : Option ℕ) → MatchOption r (room < v) (λ n. (n ≡ v) × (n ≤ room)) → IsWrittenSize words v
    → IfSome r (λ size. IsWrittenSize words size × (size ≤ room))
found_of words room v None told w = tt
found_of words room v (Some n) told w = (subst (IsWrittenSize words) (sym told.0) w, told.1)

pub none_of : (words : List ℕ) (room v : ℕ) (r : Option ℕ) → MatchOption r (room < v) (λ n. (n ≡ v) × (n ≤ room)) → v ≡ digits_value 16 (take (digits_place words) words)
    → IfNone r ((size : ℕ) → size ≤ room → ¬ (IsWrittenSize words size))
none_of words room v None told is = λ n fits w. omega (arith, told, is, (read_back words n w).1, fits)
none_of words room v (Some n) told is = tt

pub no_extension : (words : List ℕ) (begins : Bool) → begins ≡ begins_extension (skip_ows (drop (digits_place words) words)) → begins ≡ false
    → (n : ℕ) → IsWrittenSize words n → ⊥
no_extension words begins told fails n w = let h = (read_back words n w).2 in cc
