-- A test of some element of a list.
use Rattle.std.proofs.Common.{◌≡◌, Bool, List, [], ◌∷◌, ◌||◌, map, refl, ap}
use Rattle.std.specs.List.{list_any}

-- an element of the mapped list passes where one of the list does after the map
pub list_any-map : {X Y : Type 0} (p : X → Bool) (f : Y → X) (ys : List Y) → list_any p (map f ys) ≡ list_any (λ y. p (f y)) ys
list_any-map p f [] = refl
list_any-map p f (y ∷ ys) = ap (λ rest. p (f y) || rest) (list_any-map p f ys)
