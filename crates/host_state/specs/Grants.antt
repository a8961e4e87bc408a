-- What a transfer was granted.
use Rattle.std.specs.Prelude.{ℕ, List, Option}
use Rattle.std.specs.Option.{option_and_then}
use Rattle.conn_log.specs.declared.entry.Want.{Want}
use Rattle.conn_log.specs.declared.entry.Entry.{Entry}
use Rattle.conn_log.specs.Connections.{held_number, holder_want}

-- what a transfer was granted its connection for
abbrev pub granted_want : List Entry → ℕ → Option Want
granted_want log transfer = option_and_then (holder_want log) (held_number log transfer)
