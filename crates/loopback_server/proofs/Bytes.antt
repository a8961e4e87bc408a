-- What the memory of a connection holds after some bytes are dropped, and after others are read.
use Rattle.std.proofs.Common.{◌≡◌, ℕ, ◌+◌, ◌-◌, ◌≤◌, List, ◌++◌, length, take, drop, ap, sym, ◌∙◌, arith, length-take-le, length-drop, take-add, take-take, take_at, drop_at}
use Rattle.std.specs.List.{slice_range, copy_within}
use Rattle.std.proofs.lemmas.List.{drop-drop, drop-take, length-take}
use Rattle.std.proofs.lemmas.List.Edits.{take-paste}
use Rattle.std.proofs.lemmas.Slice.{take-put_mid}
use borrow.Rule.Slice.PartMut.{put_mid}
use lib.Seq.{paste}

-- what is moved to the front stands there
moved_to_front : (bytes : List ℕ) (start end : ℕ) → start ≤ end → end ≤ length bytes
    → take (end - start) (copy_within bytes start end 0) ≡ slice_range bytes start end
moved_to_front bytes start end ordered within =
    let count = end - start in
    let same : count ≡ 0 + count = omega arith in
    ap (λ n. take n (paste bytes 0 (drop start bytes) count)) same
    ∙ take-paste bytes 0 (drop start bytes) count (omega arith) (omega (arith, length-drop start bytes))

-- a read into the rest puts its bytes behind them
read_behind : (bytes read : List ℕ) (had room count : ℕ) → had + room ≡ length bytes → length read ≡ room → count ≤ room
    → take (had + count) (put_mid had room bytes read) ≡ take had bytes ++ take count read
read_behind bytes read had room count all filled few =
    let front : length (take had bytes) ≡ had = length-take-le had bytes (omega arith) in
    sym (take-take (had + count) (had + room) (put_mid had room bytes read) (omega arith))
    ∙ ap (take (had + count)) (take-put_mid had room bytes read (had + room) (omega arith) (omega arith))
    ∙ take-add had count (take had bytes ++ read)
    ∙ (λ k. take_at (take had bytes) read had front k ++ take count (drop_at (take had bytes) read had front k))

-- both
pub after_read : (bytes moved read : List ℕ) (start end room count : ℕ) → start ≤ end → end ≤ length bytes
    → moved ≡ copy_within bytes start end 0 → end - start + room ≡ length moved → length read ≡ room → count ≤ room
    → slice_range (put_mid (end - start) room moved read) 0 (end - start + count) ≡ slice_range bytes start end ++ take count read
after_read bytes moved read start end room count ordered within is all filled few =
    let same : end - start + count - 0 ≡ end - start + count = omega arith in
    ap (λ n. take n (put_mid (end - start) room moved read)) same
    ∙ read_behind moved read (end - start) room count all filled few
    ∙ ap (λ front. take (end - start) front ++ take count read) is
    ∙ ap (λ front. front ++ take count read) (moved_to_front bytes start end ordered within)

-- the first bytes are dropped by a later start
pub after_drop : (bytes : List ℕ) (start end count : ℕ) → count ≤ length (slice_range bytes start end)
    → slice_range bytes (start + count) end ≡ drop count (slice_range bytes start end)
after_drop bytes start end count within =
    let left = end - (start + count) in
    let parts : end - start ≡ count + left = omega (arith, within, length-take (end - start) (drop start bytes)) in
    ap (take left) (sym (drop-drop count start bytes))
    ∙ sym (drop-take count left (drop start bytes))
    ∙ sym (ap (λ n. drop count (take n (drop start bytes))) parts)
