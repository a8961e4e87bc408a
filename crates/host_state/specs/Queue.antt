-- The transfers that wait, as the steps of a host see them.
use Rattle.std.specs.Prelude.{ℕ, ◌==◌, if◌then◌else◌, List, [], ◌∷◌, Option, Some, None}
use Rattle.conn_log.specs.declared.entry.Want.{Want}

-- what they want, first come first, and for how many more there is room
pub record Waiters : Type 0 where
  pub wants : List Want
  pub room : ℕ

-- what a waiting transfer wants
abbrev pub waiting_want : List Want → ℕ → Option Want
waiting_want [] transfer = None
waiting_want (want ∷ others) transfer = if want.transfer == transfer then Some want else waiting_want others transfer
