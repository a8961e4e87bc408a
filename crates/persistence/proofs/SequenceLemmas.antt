-- Pieces of a text, one after another: what holds of one piece holds of a row of them.
use Rattle.std.proofs.Common.{◌≡◌, ℕ, List, [], ◌∷◌, ◌++◌, refl, sym, ap, subst, ◌∙◌, append_assoc}
use Rattle.persistence.specs.Sequence.{ReadsEach}

-- a piece begins a text in one way, and reads the same whatever follows it
pub record IsPrinted {A : Type 0} (Reads : A → List ℕ → List ℕ → Type 0) : Type 0 where
  pub unique : (a b : A) (text r q : List ℕ) → Reads a text r → Reads b text q → (a ≡ b) × (r ≡ q)
  pub print : (a : A) (text r : List ℕ) → Reads a text r
      → (front : List ℕ) × (text ≡ front ++ r) × ((more : List ℕ) → Reads a (front ++ more) more)

module _ {A : Type 0} {Reads : A → List ℕ → List ℕ → Type 0} (printed : IsPrinted Reads) where
  -- more bytes at the end
  pub Reads-append : (a : A) (text r more : List ℕ) → Reads a text r → Reads a (text ++ more) (r ++ more)
  Reads-append a text r more reads =
      let p = printed.print a text r reads in
      subst (λ (t : List ℕ). Reads a t (r ++ more)) (sym (append_assoc p.0 r more) ∙ ap (λ (t : List ℕ). t ++ more) (sym p.1)) (p.2 (r ++ more))

  -- a row of pieces is printed too
  pub print_each : (xs : List A) (text r : List ℕ) → ReadsEach Reads xs text r
      → (front : List ℕ) × (text ≡ front ++ r) × ((more : List ℕ) → ReadsEach Reads xs (front ++ more) more)
  print_each [] text r e = ([], e, λ more. refl)
  print_each (a ∷ xs) text r (middle, reads, rest) =
      let p = printed.print a text middle reads in
      let q = print_each xs middle r rest in (
        p.0 ++ q.0,
        p.1 ∙ ap (λ (t : List ℕ). p.0 ++ t) q.1 ∙ sym (append_assoc p.0 q.0 r),
        λ more. (q.0 ++ more, subst (λ (t : List ℕ). Reads a t (q.0 ++ more)) (sym (append_assoc p.0 q.0 more)) (p.2 (q.0 ++ more)), q.2 more),
      )

  pub each-append : (xs : List A) (text r more : List ℕ) → ReadsEach Reads xs text r → ReadsEach Reads xs (text ++ more) (r ++ more)
  each-append [] text r more e = ap (λ (t : List ℕ). t ++ more) e
  each-append (a ∷ xs) text r more (middle, reads, rest) =
      (middle ++ more, Reads-append a text middle more reads, each-append xs middle r more rest)

  -- one piece more
  pub each-more : (xs : List A) (a : A) (text middle r : List ℕ) → ReadsEach Reads xs text middle → Reads a middle r
      → ReadsEach Reads (xs ++ a ∷ []) text r
  each-more [] a text middle r e reads = (r, subst (λ (t : List ℕ). Reads a t r) (sym e) reads, refl)
  each-more (b ∷ xs) a text middle r (m, first, rest) reads = (m, first, each-more xs a m middle r rest reads)

  -- two rows that begin one text: one of them goes on where the other ends
  pub data Compared (xs ys : List A) (r q : List ℕ) : Type 0 where
    same : xs ≡ ys → r ≡ q → Compared xs ys r q
    longer : (c : A) (cs : List A) (m : List ℕ) → xs ≡ ys ++ c ∷ cs → Reads c q m → Compared xs ys r q
    shorter : (c : A) (cs : List A) (m : List ℕ) → ys ≡ xs ++ c ∷ cs → Reads c r m → Compared xs ys r q

  cons_compared : (a : A) {xs ys : List A} {r q : List ℕ} → Compared xs ys r q → Compared (a ∷ xs) (a ∷ ys) r q
  cons_compared a (same e f) = same (ap (λ (zs : List A). a ∷ zs) e) f
  cons_compared a (longer c cs m e reads) = longer c cs m (ap (λ (zs : List A). a ∷ zs) e) reads
  cons_compared a (shorter c cs m e reads) = shorter c cs m (ap (λ (zs : List A). a ∷ zs) e) reads

  pub compared : (xs ys : List A) (text r q : List ℕ) → ReadsEach Reads xs text r → ReadsEach Reads ys text q → Compared xs ys r q
  compared [] [] text r q e f = same refl (sym e ∙ f)
  compared [] (b ∷ ys) text r q e (m, reads, rest) = shorter b ys m refl (subst (λ (t : List ℕ). Reads b t m) e reads)
  compared (a ∷ xs) [] text r q (m, reads, rest) f = longer a xs m refl (subst (λ (t : List ℕ). Reads a t m) f reads)
  compared (a ∷ xs) (b ∷ ys) text r q (m, reads, rest) (n, other, others) =
      let u = printed.unique a b text m n reads other in
      let go : Compared xs ys r q = compared xs ys n r q (subst (λ (t : List ℕ). ReadsEach Reads xs t r) u.1 rest) others in
      subst (λ (x : A). Compared (a ∷ xs) (x ∷ ys) r q) u.0 (cons_compared a go)
