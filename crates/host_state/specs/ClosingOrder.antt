-- In which order a call closes what is too old, or one too many.
use Rattle.std.specs.Prelude.{◌≡◌, ℕ, true, false, List, ◌++◌}
use Rattle.conn_log.specs.declared.entry.Entry.{Entry}
use Rattle.conn_log.specs.Connections.{is_closed}
use Rattle.conn_log.specs.Legal.{LimitAndFirst, IsLegal}
use Rattle.conn_log.specs.Laws.{CameBackBefore}
use Rattle.host_state.specs.Steps.{without_picked}
use Rattle.host_state.specs.declared.closing.Closing.{Closing}

-- closed from the one log to the other
pub record IsClosedFrom (old new : List Entry) (c : ℕ) : Type 0 where
  pub before : is_closed old c ≡ false
  pub after : is_closed new c ≡ true

-- what is closed as too old, pruned, or closed for a lower limit: at each place of the log that this leaves, what
-- was closed by then came back before what was closed later
abbrev pub ClosingsCloseTheOldestFirst : Type 0
ClosingsCloseTheOldestFirst =
    (settings : LimitAndFirst) (closing : Closing) (moment : ℕ) (log newer older : List Entry) (c d : ℕ)
    → IsLegal settings log
    → without_picked closing moment log ≡ newer ++ older
    → IsClosedFrom log older c
    → IsClosedFrom older (newer ++ older) d
    → CameBackBefore log c d
