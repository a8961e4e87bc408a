-- The transfers that wait, as a table keeps them.
use Rattle.std.specs.Prelude.{◌≡◌, ℕ, Bool, ◌==◌, List, [], ◌∷◌}
use Rattle.std.specs.List.{list_any}
use Rattle.conn_log.specs.declared.entry.Want.{Want}

-- the transfer is one of those that wait
abbrev pub is_among_waiters : List Want → ℕ → Bool
is_among_waiters wants transfer = list_any (λ (want : Want). want.transfer == transfer) wants

-- each want stands under its transfer
abbrev pub AreKeyed : List (ℕ × Want) → Type 0
AreKeyed [] = Unit {0}
AreKeyed (e ∷ es) = (e.0 ≡ e.1.transfer) × AreKeyed es
