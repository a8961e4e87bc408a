-- What a script has answered up to a place.
use Rattle.std.proofs.Common.{◌≡◌, ℕ, ◌+◌, List, ◌++◌, length, take, drop, ap, sym, ◌∙◌}
use Rattle.std.proofs.Math.Seq.{take-add}
use Rattle.std.proofs.lemmas.List.{take_at}

-- so many bytes more are those from the place on, which were copied to the front of a buffer
pub answers_more : (script copied rest : List ℕ) (place n : ℕ) → copied ≡ take n (drop place script) → length copied ≡ n → take (place + n) script ≡ take place script ++ take n (copied ++ rest)
answers_more script copied rest place n from len =
    take-add place n script ∙ ap (λ bytes. take place script ++ bytes) (sym from ∙ sym (take_at copied rest n len))
