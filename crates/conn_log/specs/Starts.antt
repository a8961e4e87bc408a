-- How many uses of connections began.
use Rattle.std.specs.Prelude.{ℕ, ◌+◌, List, [], ◌∷◌}
use Rattle.conn_log.specs.declared.entry.Event.{Event}
use Rattle.conn_log.specs.declared.entry.Event.TheVariants.{Opened, Leased}
use Rattle.conn_log.specs.declared.entry.Entry.{Entry}

-- a start: a connection was opened for a transfer, or an idle one was leased to it
abbrev pub starts_after : Event → ℕ → ℕ
starts_after (Opened c want) starts = starts + 1
starts_after (Leased c want) starts = starts + 1
starts_after _ starts = starts

abbrev pub start_count : List Entry → ℕ
start_count [] = 0
start_count (e ∷ before) = starts_after e.event (start_count before)
