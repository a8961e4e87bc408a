-- What the index of a site says, and what one more site at the end of the list changes.
use Rattle.std.proofs.Common.{◌≡◌, ℕ, ◌<◌, ◌⊎◌, length-append, Bool, true, false, cond, List, [], ◌∷◌, ◌++◌, length, Some, None, Option, refl, arith, slice_get, get_or, IfSome, zero, suc, inl, inr, ap, subst, sym, ◌∙◌}
use Rattle.std.specs.Bool.{Decides}
use Rattle.std.specs.List.{position}
use Rattle.std.specs.Option.{option_or}
use Rattle.std.proofs.lemmas.Grind.{common_steps}
use Rattle.std.proofs.lemmas.List.Folds.{position_or_len_push}
use Rattle.std.proofs.lemmas.List.Quantifiers.{position-Some}
use Rattle.std.proofs.lemmas.List.Sums.{prefix_len-le-length}
use Rattle.std.proofs.lemmas.Option.{slice_get-get_or}
use Rattle.std.proofs.lemmas.Slice.Eq.{bytes_eq-Decides}
use Rattle.conn_key.specs.Index.{IsIndexed, Notes, Places}
use Rattle.conn_key.specs.Site.{is_same_site}
use Rattle.conn_key.specs.Sites.{index_of, IsSiteList}
use Rattle.conn_key.specs.declared.site.Site.{Site}

-- the first place that passes, in a list with one more element
position-push : {X : Type 0} (p : X → Bool) (xs : List X) (y : X)
    → position p (xs ++ y ∷ []) ≡ option_or (position p xs) (cond (p y) (Some (length xs)) None)
position-push p xs y = grind (arith, common_steps, position_or_len_push p xs y, prefix_len-le-length)

-- what stands in a list with one more element stood there before, or is that element
slice_get-push : {X : Type 0} (xs : List X) (y : X) (i : ℕ) (x : X)
    → slice_get (xs ++ y ∷ []) i ≡ Some x → (slice_get xs i ≡ Some x) ⊎ ((i ≡ length xs) × (y ≡ x))
slice_get-push [] y zero x h = inr (refl, grind (arith, h))
slice_get-push [] y (suc i) x h = grind (arith, h)
slice_get-push (z ∷ xs) y zero x h = inl h
slice_get-push (z ∷ xs) y (suc i) x h = grind (arith, common_steps, slice_get-push xs y i x h)

-- the test says whether the two are one site
is_same_site-Decides : (a b : Site) → Decides (is_same_site a b) (a ≡ b)
is_same_site-Decides a b = grind (arith, common_steps, bytes_eq-Decides a.0 b.0)

-- a place that is new only where there was none
option_or-cond : (a b : Bool) (o : Option ℕ) (n : ℕ)
    → (a ≡ true → b ≡ true) → (b ≡ true → a ≡ true) → (a ≡ true → o ≡ None)
    → option_or o (cond b (Some n) None) ≡ cond a (Some n) o
option_or-cond true true o n forth back none = ap (λ p. option_or p (Some n)) (none refl)
option_or-cond true false o n forth back none = grind (arith, forth refl)
option_or-cond false true o n forth back none = grind (arith, back refl)
option_or-cond false false None n forth back none = refl
option_or-cond false false (Some i) n forth back none = refl

-- a new site at the end has the next index, and the others keep theirs
index_of-push : (sites : List Site) (site : Site) → index_of sites site ≡ None
    → (other : Site) → index_of (sites ++ site ∷ []) other
    ≡ cond (is_same_site site other) (Some (length sites)) (index_of sites other)
index_of-push sites site new other =
    let there = is_same_site-Decides site other in
    let back = is_same_site-Decides other site in
    position-push (is_same_site other) sites site
    ∙ option_or-cond (is_same_site site other) (is_same_site other site) (index_of sites other)
    (length sites)
    (λ e. back.1 (sym (there.0 e))) (λ e. there.1 (sym (back.0 e)))
    (λ e. subst (λ s. index_of sites s ≡ None) (there.0 e) new)

-- another site keeps the place that it has
cond-other : (b : Bool) (o : Option ℕ) (n i : ℕ) → (b ≡ true → ⊥)
    → o ≡ Some i → cond b (Some n) o ≡ Some i
cond-other true o n i apart has = absurd (apart refl)
cond-other false o n i apart has = has

-- the sites stay distinct, and one more stands within the limit
pub IsSiteList-push : (sites : List Site) (site : Site)
    → index_of sites site ≡ None → length sites < 1024 → IsSiteList sites
    → IsSiteList (sites ++ site ∷ [])
IsSiteList-push sites site new small valid = record {
  distinct = λ i other stands.
      index_of-push sites site new other
      ∙ (elim (slice_get-push sites site i other stands) [
        | inl before ↦ cond-other (is_same_site site other) (index_of sites other) (length sites) i
            (λ e.
            let none : index_of sites other ≡ None = subst (λ s. index_of sites s ≡ None) ((is_same_site-Decides site other).0 e) new in
            grind (arith, none, valid.distinct i other before))
            (valid.distinct i other before)
        | inr last ↦ ap (λ b. cond b (Some (length sites)) (index_of sites other)) ((is_same_site-Decides site other).1 last.1) ∙ ap Some (sym last.0)
      ]);
  within = omega (arith, length-append sites (site ∷ []));
}

-- what has an index stands there
slice_get-index_of : (sites : List Site) (site : Site) (i : ℕ)
    → index_of sites site ≡ Some i → slice_get sites i ≡ Some site
slice_get-index_of sites site i e =
    let found = position-Some (is_same_site site) sites i site e in
    let same = (is_same_site-Decides site (get_or sites i site)).0 found.1 in
    slice_get-get_or sites i site found.0 ∙ ap Some (sym same)

-- so does what a look-up found
pub IfSome-index_of : (found : Option ℕ) (sites : List Site) (site : Site)
    → found ≡ index_of sites site → IfSome found (λ i. slice_get sites i ≡ Some site)
IfSome-index_of None sites site e = tt
IfSome-index_of (Some i) sites site e = slice_get-index_of sites site i (sym e)

-- the index stays beside the list with a new site at its end
pub IsIndexed-push : {A S T : Type 0} (old new : Places A S T) (sites : List Site) (site : Site) (room : ℕ)
    → IsIndexed old sites room → index_of sites site ≡ None → length sites < 1024
    → Notes old new site (length sites) → IsIndexed new (sites ++ site ∷ []) room
IsIndexed-push old new sites site room kept absent small notes = record {
  valid = IsSiteList-push sites site absent small kept.valid;
  index = λ other.
      notes other
      ∙ ap (λ o. cond (is_same_site site other) (Some (length sites)) o) (kept.index other)
      ∙ sym (index_of-push sites site absent other);
  room_for_all = kept.room_for_all;
}
