-- The first line of a text whose end is there.
use Rattle.std.proofs.Common.{◌≡◌, ℕ, ◌+◌, ◌-◌, ◌<◌, ◌≤◌, Bool, true, false, not, cond, List, [], ◌∷◌, ◌++◌, length, take, drop, refl, ap, sym, ◌∙◌, arith}
use Rattle.std.proofs.Math.Numerals.{one-add}
use Rattle.std.proofs.lemmas.Grind.{common_steps}
use Rattle.std.specs.List.{slice_split, onto_first, position_or_len}
use Rattle.std.specs.Str.Lines.{lines_of_parts, strip_carriage_return}
use Rattle.streams.specs.Lines.{lines, ends_line}
use Rattle.streams.proofs.LineSplits.{first-stripped}
use Rattle.audit_stream.specs.Reading.{IsCompleteLine}

-- the first part of a split ends in the front, whatever follows that
abbrev parts-at : (ℕ → Bool) → ℕ → List ℕ → List ℕ → Bool → Type 0
parts-at p x xs future b = let n = cond (not b) (1 + position_or_len p xs) 0 in
    n < length (x ∷ xs) → cond b ([] ∷ slice_split p (xs ++ future)) (onto_first x (slice_split p (xs ++ future))) ≡ take n (x ∷ xs) ∷ slice_split p (drop 1 (drop n (x ∷ xs)) ++ future)

split-front : (p : ℕ → Bool) (xs future : List ℕ) → position_or_len p xs < length xs
    → slice_split p (xs ++ future) ≡ take (position_or_len p xs) xs ∷ slice_split p (drop 1 (drop (position_or_len p xs) xs) ++ future)
split-front p [] future some = absurd (omega arith)
split-front p (x ∷ xs) future some =
    let at : (b : Bool) → parts-at p x xs future b = elim [
      | true ↦ λ h. refl
      | false ↦ λ h. rw one-add (ap (onto_first x) (split-front p xs future (omega arith)))
    ] in
    at (p x) some

split-at-front : (text future : List ℕ) (n : ℕ) → n ≡ position_or_len ends_line text → n < length text → slice_split ends_line (text ++ future) ≡ take n text ∷ slice_split ends_line (drop 1 (drop n text) ++ future)
split-at-front text future n e inside = rw e (split-front ends_line text future (omega (arith, e, inside)))

all-others : (rest : List ℕ) → 1 ≤ length rest → drop 1 rest ≡ take (length rest - 1) (drop 1 rest)
all-others rest some = grind (arith, common_steps)

inside-of : (n : ℕ) (text : List ℕ) → 1 ≤ length (drop n text) → n < length text
inside-of n text some = grind (arith, common_steps)

pub complete-line : (text front rest : List ℕ) (n : ℕ) → n ≡ position_or_len ends_line text → front ≡ take n text → rest ≡ drop n text → 1 ≤ length rest
    → IsCompleteLine text (strip_carriage_return front) (take (length rest - 1) (drop 1 rest))
unfolding lines
complete-line text front rest n e f r some = λ future.
    let inside = inside-of n text (rw (sym r) some) in
    let others = take (length rest - 1) (drop 1 rest) in
    let same : drop 1 (drop n text) ≡ others = rw (sym r) (all-others rest some) in
    ap lines_of_parts (split-at-front text future n e inside) ∙ rw (sym f, same) (first-stripped front (others ++ future))
