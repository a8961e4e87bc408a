-- Pieces of a text, one after another.
use Rattle.std.specs.Prelude.{◌≡◌, ℕ, List, [], ◌∷◌}

-- where `Reads piece text rest` says that a text is that piece and then the rest: the text is these
-- pieces, one after another, and then the rest
abbrev pub ReadsEach : {A : Type 0} → (A → List ℕ → List ℕ → Type 0) → List A → List ℕ → List ℕ → Type 0
ReadsEach Reads [] text rest = text ≡ rest
ReadsEach Reads (piece ∷ pieces) text rest =
    (middle : List ℕ) × Reads piece text middle × ReadsEach Reads pieces middle rest
