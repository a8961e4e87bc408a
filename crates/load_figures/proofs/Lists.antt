-- Lists that are joined place by place.
use Rattle.std.proofs.Common.{◌≡◌, ℕ, zero, suc, ◌+◌, ◌<◌, ◌≤◌, List, [], ◌∷◌, length, get_or, slice_set, refl, sym, ap, ◌∙◌, add-one, arith}
use Rattle.load_figures.specs.Counts.{each_with}

-- joined at the first places, and the list's own items at the others
abbrev pub each_up_to : {A : Type 0} → ℕ → (A → A → A) → List A → List A → List A
each_up_to zero f xs ys = xs
each_up_to (suc n) f [] ys = []
each_up_to (suc n) f (x ∷ xs) [] = x ∷ xs
each_up_to (suc n) f (x ∷ xs) (y ∷ ys) = f x y ∷ each_up_to n f xs ys

pub length-each_up_to : {A : Type 0} (n : ℕ) (f : A → A → A) (xs ys : List A) → length (each_up_to n f xs ys) ≡ length xs
length-each_up_to zero f xs ys = refl
length-each_up_to (suc n) f [] ys = refl
length-each_up_to (suc n) f (x ∷ xs) [] = refl
length-each_up_to (suc n) f (x ∷ xs) (y ∷ ys) = ap suc (length-each_up_to n f xs ys)

-- all places of the other list
pub each_up_to-all : {A : Type 0} (f : A → A → A) (xs ys : List A) → each_up_to (length ys) f xs ys ≡ each_with f xs ys
each_up_to-all f [] [] = refl
each_up_to-all f (x ∷ xs) [] = refl
each_up_to-all f [] (y ∷ ys) = refl
each_up_to-all f (x ∷ xs) (y ∷ ys) = ap (λ rest. f x y ∷ rest) (each_up_to-all f xs ys)

-- what stands at the next place
pub each_up_to-here : {A : Type 0} (n : ℕ) (f : A → A → A) (xs ys : List A) (none : A) → get_or (each_up_to n f xs ys) n none ≡ get_or xs n none
each_up_to-here zero f xs ys none = refl
each_up_to-here (suc n) f [] ys none = refl
each_up_to-here (suc n) f (x ∷ xs) [] none = refl
each_up_to-here (suc n) f (x ∷ xs) (y ∷ ys) none = each_up_to-here n f xs ys none

-- one more place, if the list has it
pub each_up_to-more : {A : Type 0} (n : ℕ) (f : A → A → A) (xs ys : List A) (none nothing : A) → n < length xs → n < length ys
    → slice_set (each_up_to n f xs ys) n (f (get_or xs n none) (get_or ys n nothing)) ≡ each_up_to (suc n) f xs ys
each_up_to-more n f [] ys none nothing xs_there ys_there = absurd (omega arith)
each_up_to-more n f (x ∷ xs) [] none nothing xs_there ys_there = absurd (omega arith)
each_up_to-more zero f (x ∷ xs) (y ∷ ys) none nothing xs_there ys_there = refl
each_up_to-more (suc n) f (x ∷ xs) (y ∷ ys) none nothing xs_there ys_there =
    ap (λ rest. f x y ∷ rest) (each_up_to-more n f xs ys none nothing (omega arith) (omega arith))

-- one more place, if the list lacks it
each_up_to-past : {A : Type 0} (n : ℕ) (f : A → A → A) (xs ys : List A) → length xs ≤ n → each_up_to n f xs ys ≡ each_up_to (suc n) f xs ys
each_up_to-past zero f [] ys past = refl
each_up_to-past zero f (x ∷ xs) ys past = absurd (omega arith)
each_up_to-past (suc n) f [] ys past = refl
each_up_to-past (suc n) f (x ∷ xs) [] past = refl
each_up_to-past (suc n) f (x ∷ xs) (y ∷ ys) past = ap (λ rest. f x y ∷ rest) (each_up_to-past n f xs ys (omega arith))

-- the next item was joined with the other list's
pub each_joined : {A : Type 0} (n : ℕ) (f : A → A → A) (xs ys before : List A) (none other : A) → before ≡ each_up_to n f xs ys → n < length xs → n < length ys
    → other ≡ get_or ys n other → slice_set before n (f (get_or before n none) other) ≡ each_up_to (n + 1) f xs ys
each_joined n f xs ys before none other so_far xs_there ys_there other_is =
    ap (λ zs. slice_set zs n (f (get_or zs n none) other)) so_far
    ∙ ap (λ x. slice_set (each_up_to n f xs ys) n (f x other)) (each_up_to-here n f xs ys none)
    ∙ ap (λ y. slice_set (each_up_to n f xs ys) n (f (get_or xs n none) y)) other_is
    ∙ each_up_to-more n f xs ys none other xs_there ys_there
    ∙ ap (λ m. each_up_to m f xs ys) (sym (add-one n))

-- there was no next item
pub each_past : {A : Type 0} (n : ℕ) (f : A → A → A) (xs ys before : List A) → before ≡ each_up_to n f xs ys → length xs ≤ n → before ≡ each_up_to (n + 1) f xs ys
each_past n f xs ys before so_far past = so_far ∙ each_up_to-past n f xs ys past ∙ ap (λ m. each_up_to m f xs ys) (sym (add-one n))
