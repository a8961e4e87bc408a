-- What is put and read so far.
use Rattle.std.proofs.Common.{◌≡◌, ℕ, List, [], ◌∷◌, ◌++◌, length, take, drop, refl, ap, sym, ◌∙◌, arith, Option, append_assoc, append-nil, take-append-drop}
use Rattle.std.proofs.lemmas.List.{length-append}
use Rattle.std.specs.Io.KnownBytes.{Appends}
use Rattle.std.proofs.KnownBytes.{Appends-nil, Appends-trans}
use Rattle.streams.specs.Streams.{IsProperFront}

-- a front of the bytes is put, and the rest is left
pub record PutSoFar (old new : Option (List ℕ)) (bytes rest : List ℕ) : Type 0 where
  pub front : List ℕ
  pub whole : bytes ≡ front ++ rest
  pub put : Appends old new front

pub put-none : (old : Option (List ℕ)) (bytes : List ℕ) → PutSoFar old old bytes bytes
put-none old bytes = record { front = []; whole = refl; put = Appends-nil old }

pub put-more : (old mid new : Option (List ℕ)) (bytes rest : List ℕ) (n : ℕ) → PutSoFar old mid bytes rest → Appends mid new (take n rest)
    → PutSoFar old new bytes (drop n rest)
put-more old mid new bytes rest n so_far more =
    record {
      front = so_far.front ++ take n rest;
      whole = so_far.whole ∙ ap (λ l. so_far.front ++ l) (sym (take-append-drop n rest)) ∙ sym (append_assoc so_far.front (take n rest) (drop n rest));
      put = Appends-trans old mid new so_far.front (take n rest) so_far.put more;
    }

pub put-all : (old new : Option (List ℕ)) (bytes rest : List ℕ) → PutSoFar old new bytes rest → length rest ≡ 0 → Appends old new bytes
put-all old new bytes [] so_far none = let same : bytes ≡ so_far.front = so_far.whole ∙ append-nil so_far.front in rw same so_far.put
put-all old new bytes (y ∷ ys) so_far none = absurd (omega arith)

-- a front is not all where something is left
pub proper-front : (front rest bytes : List ℕ) → bytes ≡ front ++ rest → (length rest ≡ 0 → ⊥) → IsProperFront front bytes
proper-front front rest bytes whole left = ((rest, whole), omega (arith, ap length whole, length-append front rest))

pub put-front : (old mid new : Option (List ℕ)) (bytes rest : List ℕ) → PutSoFar old mid bytes rest → (length rest ≡ 0 → ⊥) → Appends mid new []
    → (front : List ℕ) × IsProperFront front bytes × Appends old new front
put-front old mid new bytes rest so_far left kept =
    (so_far.front, proper-front so_far.front rest bytes so_far.whole left, rw (sym (append-nil so_far.front)) (Appends-trans old mid new so_far.front [] so_far.put kept))
