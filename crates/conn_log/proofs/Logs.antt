-- A log's list of entries, oldest first in memory and newest first to callers.
use Rattle.std.proofs.Common.{◌≡◌, ℕ, ◌+◌, ◌-◌, ◌<◌, List, [], ◌∷◌, ◌++◌, length, reverse, drop, take, get_or, ap, refl, sym, ◌∙◌, arith}
use Rattle.std.proofs.lemmas.List.{take_more, reverse-append, reverse-reverse, length-reverse, length-drop, drop_at}
use Rattle.std.proofs.Math.Seq.{take-length}

-- what stands behind a front, where that many entries stood before
pub behind : {X : Type 0} (items added before : List X) (place : ℕ) → reverse items ≡ added ++ before → place ≡ length before → drop place items ≡ reverse added
behind items added before place is here =
    let turned : items ≡ reverse before ++ reverse added = sym (reverse-reverse items) ∙ ap reverse is ∙ reverse-append added before in
    rw turned (drop_at (reverse before) (reverse added) place (length-reverse before ∙ sym here))

-- one more entry of the front stands first in the turned front
pub reverse_take_more : {X : Type 0} (xs : List X) (i : ℕ) (d : X) → i < length xs → reverse (take (i + 1) xs) ≡ get_or xs i d ∷ reverse (take i xs)
reverse_take_more xs i d below = rw (take_more xs i d below) (reverse-append (take i xs) (get_or xs i d ∷ []))

-- all that lies behind a place
pub rest_whole : {X : Type 0} (xs : List X) (n : ℕ) → take (length xs - n) (drop n xs) ≡ drop n xs
rest_whole xs n = rw (sym (length-drop n xs)) (take-length (drop n xs))

-- a list without items
pub empty : {X : Type 0} (xs : List X) → length xs ≡ 0 → xs ≡ []
empty [] none = refl
empty (x ∷ xs) none = absurd (omega (arith, none))
