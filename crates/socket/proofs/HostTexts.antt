-- Texts in brackets.
use Rattle.std.proofs.Common.{◌≡◌, ℕ, ◌-◌, List, [], ◌∷◌, length, take, drop, arith}
use Rattle.std.proofs.lemmas.List.{length-append}
use Rattle.std.proofs.Math.Seq.{take-append_seam}
use Rattle.socket.specs.Hosts.{in_brackets}

-- what stands between the brackets
pub inside_of_brackets : (text inside : List ℕ) → text ≡ in_brackets inside → take (length text - 1 - 1) (drop 1 text) ≡ inside
inside_of_brackets text inside same =
    let more = length-append inside (93 ∷ []) in
    let count : length text - 1 - 1 ≡ length inside = rw (same, more) (omega arith) in
    rw (count, same) (take-append_seam inside (93 ∷ []))
