-- A part that comes in pieces: where it ends, and what it shows.
use Rattle.std.proofs.Common.{◌≡◌, ℕ, ◌+◌, ◌-◌, ◌<◌, ◌≤◌, ◌⊎◌, List, [], ◌∷◌, ◌++◌, length, take, drop, sym, ap, subst, ◌∙◌, inl, inr, arith, append_assoc, length-append, length-drop}
use Rattle.std.proofs.lemmas.List.{append-nil, take-append-drop, take_at}
use Rattle.persistence.specs.declared.answer.ReadFault.{ReadFault}
use Rattle.persistence.specs.Faults.{IsFirst}
use Rattle.persistence.proofs.SequenceLemmas.{IsPrinted}
use Rattle.persistence.proofs.LineLemmas.{cut_twice}

-- what follows the bytes that were taken
pub taken_and_rest : (kept piece filled : List ℕ) (taken : ℕ) → filled ≡ kept ++ take taken piece → filled ++ drop taken piece ≡ kept ++ piece
taken_and_rest kept piece filled taken is =
    ap (λ (t : List ℕ). t ++ drop taken piece) is ∙ append_assoc kept (take taken piece) (drop taken piece) ∙ ap (λ (t : List ℕ). kept ++ t) (take-append-drop taken piece)

-- the first fault of a front is the first fault of the whole
pub first_further : (Shown : List ℕ → ReadFault → Type 0) (Excused : List ℕ → Type 0) (front more : List ℕ) (fault : ReadFault)
    → IsFirst Shown Excused front fault → IsFirst Shown Excused (front ++ more) fault
first_further Shown Excused front more fault found = record {
  front = found.front;
  later = found.later ++ more;
  is = ap (λ (t : List ℕ). t ++ more) found.is ∙ append_assoc found.front found.later more;
  shown = found.shown;
  first = found.first;
}

-- the first fault of what is kept with what was taken
pub first_taken : (Shown : List ℕ → ReadFault → Type 0) (Excused : List ℕ → Type 0) (kept piece filled : List ℕ) (taken : ℕ) (fault : ReadFault)
    → filled ≡ kept ++ take taken piece → IsFirst Shown Excused filled fault → IsFirst Shown Excused (kept ++ piece) fault
first_taken Shown Excused kept piece filled taken fault is found =
    subst (λ (t : List ℕ). IsFirst Shown Excused t fault) (taken_and_rest kept piece filled taken is) (first_further Shown Excused filled (drop taken piece) fault found)

-- a part that is whole now, and was not before, ends in the new bytes
pub record EndsIn {A : Type 0} (Reads : A → List ℕ → List ℕ → Type 0) (a : A) (kept piece : List ℕ) (len : ℕ) : Type 0 where
  pub after : length kept < len
  pub within : len ≤ length kept + length piece
  pub reads : Reads a (kept ++ take (len - length kept) piece) []

module _ {A : Type 0} {Reads : A → List ℕ → List ℕ → Type 0} (printed : IsPrinted Reads) where
  pub ends_in : (a : A) (kept piece filled : List ℕ) (taken len : ℕ) → filled ≡ kept ++ take taken piece → len ≤ length filled → Reads a filled (drop len filled)
      → ((b : A) (r : List ℕ) → Reads b kept r → ⊥) → EndsIn Reads a kept piece len
  ends_in a kept piece filled taken len is long reads none =
      let p = printed.print a filled (drop len filled) reads in
      go p.0 p.1 p.2 (cut_twice kept (take taken piece) p.0 (drop len filled) (sym is ∙ p.1))
    where
      go : (front : List ℕ) → filled ≡ front ++ drop len filled → ((more : List ℕ) → Reads a (front ++ more) more)
          → ((z : List ℕ) × (front ≡ kept ++ z) × (take taken piece ≡ z ++ drop len filled))
          ⊎ ((z : ℕ) × (w : List ℕ) × (kept ≡ front ++ z ∷ w) × (drop len filled ≡ (z ∷ w) ++ take taken piece))
          → EndsIn Reads a kept piece len
      go front e print (inr (z, w, p, q)) = absurd (none a (z ∷ w) (subst (λ (t : List ℕ). Reads a t (z ∷ w)) (sym p) (print (z ∷ w))))
      go front e print (inl ([], p, q)) =
          absurd (none a [] (subst (λ (t : List ℕ). Reads a t []) (append-nil front ∙ p ∙ append-nil kept) (print [])))
      go front e print (inl (x ∷ z, p, q)) =
          let sized : length front ≡ len = omega (arith, ap length e, length-append front (drop len filled), length-drop len filled, long) in
          let new : length (x ∷ z) ≡ len - length kept = omega (arith, ap length p, length-append kept (x ∷ z), sized) in
          let whole : piece ≡ (x ∷ z) ++ (drop len filled ++ drop taken piece) =
          sym (take-append-drop taken piece) ∙ ap (λ (t : List ℕ). t ++ drop taken piece) q ∙ append_assoc (x ∷ z) (drop len filled) (drop taken piece) in
          let cut : take (len - length kept) piece ≡ x ∷ z =
          ap (take (len - length kept)) whole ∙ take_at (x ∷ z) (drop len filled ++ drop taken piece) (len - length kept) new in
          record {
            after = omega (arith, sized, ap length p, length-append kept (x ∷ z));
            within = omega (arith, sized, ap length p, length-append kept (x ∷ z), ap length whole, length-append (x ∷ z) (drop len filled ++ drop taken piece));
            reads = subst (λ (t : List ℕ). Reads a t []) (append-nil front ∙ p ∙ ap (λ (t : List ℕ). kept ++ t) (sym cut)) (print []);
          }
