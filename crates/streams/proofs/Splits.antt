-- The first part of a split, and what follows it.
use Rattle.std.proofs.Common.{◌≡◌, ℕ, suc, ◌+◌, ◌<◌, Bool, true, false, not, cond, List, [], ◌∷◌, length, take, drop, refl, ap, sym, ◌∙◌, arith}
use Rattle.std.proofs.Math.Numerals.{one-add}
use Rattle.std.proofs.lemmas.Bool.Decides.{nat_tests}
use Rattle.std.specs.Prelude.{filter, ◌==◌, ◌≢◌, slice_index}
use Rattle.std.specs.List.{slice_split, onto_first, position_or_len}
use Rattle.streams.specs.Words.{words, has_bytes, is_space}

-- what is left after the first part
abbrev pub parts_after : (ℕ → Bool) → List ℕ → List (List ℕ)
parts_after p [] = []
parts_after p (x ∷ xs) = slice_split p xs

abbrev onto-parts : (ℕ → Bool) → ℕ → List ℕ → Bool → Type 0
onto-parts p x xs b = let n = cond (not b) (1 + position_or_len p xs) 0 in
    cond b ([] ∷ slice_split p xs) (onto_first x (slice_split p xs)) ≡ take n (x ∷ xs) ∷ parts_after p (drop n (x ∷ xs))

pub slice_split-parts : (p : ℕ → Bool) (xs : List ℕ) → slice_split p xs ≡ take (position_or_len p xs) xs ∷ parts_after p (drop (position_or_len p xs) xs)
slice_split-parts p [] = refl
slice_split-parts p (x ∷ xs) =
    elim (p x) as (onto-parts p x xs) [
      | true ↦ refl
      | false ↦ rw one-add (ap (onto_first x) (slice_split-parts p xs))
    ]

-- a space in front of the rest gives no word
abbrev same-words : (ℕ → Bool) → ℕ → List ℕ → Bool → Type 0
same-words p x xs b = let n = cond (not b) (1 + position_or_len p xs) 0 in
    (p x ≡ b) → filter has_bytes (slice_split p (drop n (x ∷ xs))) ≡ filter has_bytes (parts_after p (drop n (x ∷ xs)))

pub words-rest : (p : ℕ → Bool) (xs : List ℕ) → filter has_bytes (slice_split p (drop (position_or_len p xs) xs)) ≡ filter has_bytes (parts_after p (drop (position_or_len p xs) xs))
words-rest p [] = refl
words-rest p (x ∷ xs) =
    let at : (b : Bool) → same-words p x xs b = elim [
      | true ↦ λ e. rw e refl
      | false ↦ λ e. rw one-add (words-rest p xs)
    ] in
    at (p x) refl

-- a first byte that is no space is in the first word
not-space : (x : ℕ) → x ≢ 32 → is_space x ≡ false
not-space x h = grind (arith, nat_tests)

has-some : (n : ℕ) → not (suc n == 0) ≡ true
has-some n = grind (arith, nat_tests)

has-first : (x : ℕ) (xs : List ℕ) → is_space x ≡ false → has_bytes (take (position_or_len is_space (x ∷ xs)) (x ∷ xs)) ≡ true
has-first x xs e = rw (e, one-add) (has-some _)

kept : (word : List ℕ) (parts : List (List ℕ)) → has_bytes word ≡ true → filter has_bytes (word ∷ parts) ≡ word ∷ filter has_bytes parts
kept word parts h = rw h refl

-- the first word of a text that is not empty and begins with no space
pub words-first : (text : List ℕ) → 0 < length text → slice_index text 0 ≢ 32
    → words text ≡ take (position_or_len is_space text) text ∷ words (drop (position_or_len is_space text) text)
unfolding words
words-first [] some first = absurd (omega arith)
words-first (x ∷ xs) some first =
    ap (filter has_bytes) (slice_split-parts is_space (x ∷ xs))
    ∙ kept _ (parts_after is_space (drop (position_or_len is_space (x ∷ xs)) (x ∷ xs))) (has-first x xs (not-space x first))
    ∙ ap (λ rest. take (position_or_len is_space (x ∷ xs)) (x ∷ xs) ∷ rest) (sym (words-rest is_space (x ∷ xs)))

pub words-empty : (text : List ℕ) → length text ≡ 0 → words text ≡ []
unfolding words
words-empty [] none = refl
words-empty (x ∷ xs) none = absurd (omega arith)
