-- There is at most one split.
use Rattle.std.proofs.Common.{◌≡◌, ℕ, Bool, List, ◌++◌, length, Option, Some, sym, ap, subst, ◌∙◌}
use Rattle.std.proofs.lemmas.List.{append_cancel_right}
use Rattle.httparse.specs.Grammar.{ResponseHead}
use Rattle.persistence.specs.declared.body.kind.BodyKind.{BodyKind}
use Rattle.persistence.specs.declared.body.kind.BodyKind.TheVariants.{NoBody, Counted, Chunked, UntilClose}
use Rattle.persistence.specs.declared.method.Method.{Method}
use Rattle.persistence.specs.Fields.{fields_of, counted_length}
use Rattle.persistence.specs.Framing.{body_kind}
use Rattle.persistence.specs.Chunks.{ReadsChunked}
use Rattle.persistence.specs.Split.{Parts, EndsBody, IsSplit}
use Rattle.persistence.proofs.HeadLemmas.{heads_unique}
use Rattle.persistence.proofs.ChunkLemmas.{chunked_unique, same_fronts}

-- a body of one kind ends in one place
ends_unique : (kind : BodyKind) (counted : Option ℕ) (ended : Bool) (a r b q : List ℕ) → a ++ r ≡ b ++ q
    → EndsBody kind counted ended a r → EndsBody kind counted ended b q → (a ≡ b) × (r ≡ q)
ends_unique NoBody counted ended a r b q e x y = (x ∙ sym y, sym (ap (λ (t : List ℕ). t ++ r) x) ∙ e ∙ ap (λ (t : List ℕ). t ++ q) y)
ends_unique Counted counted ended a r b q e x y =
    let sized : length a ≡ length b = (let f : Some (length a) ≡ Some (length b) = sym x ∙ y in cc) in
    let rest = same_fronts a b r q sized e in
    (append_cancel_right a b q (ap (λ (t : List ℕ). a ++ t) (sym rest) ∙ e), rest)
ends_unique Chunked counted ended a r b q e (xs, x) (ys, y) =
    let rest = chunked_unique xs ys (b ++ q) r q (subst (λ (t : List ℕ). ReadsChunked xs t r) e x) y in
    (append_cancel_right a b q (ap (λ (t : List ℕ). a ++ t) (sym rest) ∙ e), rest)
ends_unique UntilClose counted ended a r b q e x y =
    let rest : r ≡ q = x.1 ∙ sym y.1 in
    (append_cancel_right a b q (ap (λ (t : List ℕ). a ++ t) (sym rest) ∙ e), rest)

pub split_unique : (method : Method) (bytes : List ℕ) (ended : Bool) (a b : Parts) → IsSplit method bytes ended a → IsSplit method bytes ended b → a ≡ b
split_unique method bytes ended a b x y =
    let h = heads_unique a.interims b.interims a.head b.head bytes _ _ x.heads y.heads in
    let e = ends_unique (body_kind method b.head) (counted_length (fields_of b.head)) ended a.body a.rest b.body b.rest h.2
    (subst (λ (head : ResponseHead). EndsBody (body_kind method head) (counted_length (fields_of head)) ended a.body a.rest) h.1 x.body) y.body in
    λ i. record { interims = h.0 i; head = h.1 i; body = e.0 i; rest = e.1 i }
