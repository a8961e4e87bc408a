-- The first line of a script, and the lines that follow it.
use Rattle.std.proofs.Common.{◌≡◌, ℕ, ◌-◌, ◌<◌, ◌≤◌, false, List, [], ◌∷◌, length, take, drop, refl, ap, sym, ◌∙◌, arith}
use Rattle.std.proofs.lemmas.Grind.{common_steps}
use Rattle.std.proofs.lemmas.Bool.Decides.{nat_tests}
use Rattle.std.specs.Prelude.{◌==◌}
use Rattle.std.specs.List.{slice_split, position_or_len}
use Rattle.std.specs.Str.Lines.{lines_of_parts, strip_carriage_return}
use Rattle.streams.specs.Lines.{lines, ends_line}
use Rattle.streams.proofs.Splits.{parts_after, slice_split-parts}

no-line : (front : List ℕ) → 0 < length front → lines_of_parts (front ∷ []) ≡ front ∷ []
no-line front some = let e : (length front == 0) ≡ false = grind (arith, nat_tests) in rw e refl

pub lines-last : (script front rest : List ℕ) → slice_split ends_line script ≡ front ∷ parts_after ends_line rest → 0 < length front → length rest ≡ 0
    → lines script ≡ front ∷ lines rest
unfolding lines
lines-last script front [] e some none = ap lines_of_parts e ∙ no-line front some
lines-last script front (y ∷ ys) e some none = absurd (omega arith)

pub first-stripped : (front bytes : List ℕ) → lines_of_parts (front ∷ slice_split ends_line bytes) ≡ strip_carriage_return front ∷ lines_of_parts (slice_split ends_line bytes)
first-stripped front bytes = rw (slice_split-parts ends_line bytes) refl

others-are : (y : ℕ) (ys : List ℕ) → take (length (y ∷ ys) - 1) (drop 1 (y ∷ ys)) ≡ ys
others-are y ys = grind (arith, common_steps)

pub lines-more : (script front rest : List ℕ) → slice_split ends_line script ≡ front ∷ parts_after ends_line rest → 1 ≤ length rest
    → lines script ≡ strip_carriage_return front ∷ lines (take (length rest - 1) (drop 1 rest))
unfolding lines
lines-more script front [] e some = absurd (omega arith)
lines-more script front (y ∷ ys) e some =
    ap lines_of_parts e ∙ first-stripped front ys ∙ ap (λ others. strip_carriage_return front ∷ lines others) (sym (others-are y ys))

pub split-at : (script front rest : List ℕ) (n : ℕ) → n ≡ position_or_len ends_line script → front ≡ take n script → rest ≡ drop n script
    → slice_split ends_line script ≡ front ∷ parts_after ends_line rest
split-at script front rest n e f r =
    slice_split-parts ends_line script ∙ ap (λ k. take k script ∷ parts_after ends_line (drop k script)) (sym e)
    ∙ rw (f, r) refl
