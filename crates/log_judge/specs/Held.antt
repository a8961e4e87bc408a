-- Which connection each transfer holds, before and after an entry.
use Rattle.std.specs.Prelude.{◌≡◌, ℕ, ◌==◌, if◌then◌else◌, Option, Some, None}

-- each transfer holds what it held
abbrev pub IsSameTable : (ℕ → Option ℕ) → (ℕ → Option ℕ) → Type 0
IsSameTable old new = (t : ℕ) → new t ≡ old t

-- one transfer holds that connection, and each other what it held
abbrev pub HoldsOneMore : (ℕ → Option ℕ) → (ℕ → Option ℕ) → ℕ → ℕ → Type 0
HoldsOneMore old new transfer c = (t : ℕ) → new t ≡ (if transfer == t then Some c else old t)

-- one transfer holds nothing, and each other what it held
abbrev pub HoldsOneLess : (ℕ → Option ℕ) → (ℕ → Option ℕ) → ℕ → Type 0
HoldsOneLess old new transfer = (t : ℕ) → new t ≡ (if transfer == t then None else old t)
