-- What a part of a budget holds, and what it holds once it was answered.
use Rattle.std.specs.Prelude.{ℕ, ◌+◌, ◌-◌}
use Rattle.budget.specs.declared.permits.Held.{Held}
use Rattle.budget.specs.declared.permits.Try.{Try}
use Rattle.budget.specs.declared.permits.Try.TheVariants.{Got, Full, Contended}

abbrev pub held : ℕ → ℕ → Held
held alive kept = record { alive = alive; kept = kept }

-- one more connection open
abbrev pub one_more_open : Held → Held
one_more_open h = held (h.alive + 1) h.kept

-- one more connection kept
abbrev pub one_more_kept : Held → Held
one_more_kept h = held h.alive (h.kept + 1)

-- one connection fewer open
abbrev pub one_less_open : Held → Held
one_less_open h = held (h.alive - 1) h.kept

-- one connection fewer kept
abbrev pub one_less_kept : Held → Held
one_less_kept h = held h.alive (h.kept - 1)

-- what is held once the budget has answered: one more where it said Got, else the same
abbrev pub if_got : Try → (Held → Held) → Held → Held
if_got Got more h = more h
if_got Full more h = h
if_got Contended more h = h
