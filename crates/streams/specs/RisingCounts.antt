-- A count of the wants of memory that were answered.
use Rattle.std.specs.Prelude.{◌≡◌, ℕ, ◌<◌, ◌⊎◌}

-- the count rose, or is at the greatest number that it can say
abbrev pub Rises : ℕ → ℕ → Type 0
Rises old new = (old < new) ⊎ (new ≡ 18446744073709551615)
