-- Two lists with the same images have the same image at a place.
use Rattle.std.proofs.Common.{◌≡◌, ◌<◌, ◌∙◌, ℕ, List, ap, get_or, length, map, sym}
use Rattle.std.proofs.Math.ListN.{get_or-map}
use Rattle.std.proofs.lemmas.List.{get_or-map as get_or-map-below}

pub mapped_at : {A B C : Type 0} (f : A → C) (g : B → C) (xs : List A) (ys : List B) (place : ℕ) (x : A) (y : B) → map f xs ≡ map g ys → place < length ys → x ≡ get_or xs place x → f x ≡ g (get_or ys place y)
mapped_at {A} {B} {C} f g xs ys place x y same below is =
    ap f is
    ∙ sym (get_or-map f xs place x)
    ∙ ap (λ (l : List C). get_or l place (f x)) same
    ∙ get_or-map-below g ys place y (f x) below
