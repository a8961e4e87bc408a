-- What was written after each line.
use Rattle.std.proofs.Common.{◌≡◌, ℕ, ◌+◌, List, [], ◌++◌, length, drop, take, ap, sym, ◌∙◌, append_assoc, length-append}
use Rattle.std.proofs.Math.Seq.{drop-append-add}
use Rattle.std.proofs.lemmas.List.{take_at, drop-drop}

-- a buffer that begins with these lines, so many bytes; behind them it is as it was
pub record HasWritten (lines old new : List ℕ) (written : ℕ) : Type 0 where
  pub bytes : new ≡ lines ++ drop written old
  pub count : written ≡ length lines

-- at first none
pub begun : (lines buffer : List ℕ) → lines ≡ [] → HasWritten lines buffer buffer 0
begun lines buffer none = record { bytes = ap (λ front. front ++ buffer) (sym none); count = ap length (sym none) }

-- a text was put behind them
pub put_behind : (lines text old now new : List ℕ) (written : ℕ) → HasWritten lines old now written
    → new ≡ take written now ++ (text ++ drop (written + length text) now) → HasWritten (lines ++ text) old new (written + length text)
put_behind lines text old now new written has put =
    let begun : take written now ≡ lines = ap (take written) has.bytes ∙ take_at lines (drop written old) written (sym has.count) in
    let left : drop (written + length text) now ≡ drop (written + length text) old =
    ap (drop (written + length text)) has.bytes ∙ ap (λ n. drop (n + length text) (lines ++ drop written old)) has.count ∙ drop-append-add lines (drop written old) (length text) ∙ drop-drop (length text) written old in
    record {
      bytes = put ∙ ap (λ front. front ++ (text ++ drop (written + length text) now)) begun ∙ ap (λ rest. lines ++ (text ++ rest)) left ∙ sym (append_assoc lines text (drop (written + length text) old));
      count = ap (λ n. n + length text) has.count ∙ sym (length-append lines text);
    }
