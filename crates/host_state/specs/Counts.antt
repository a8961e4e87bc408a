-- What a log counts: what a budget's part holds for its host, and what a look tells.
use Rattle.std.specs.Prelude.{◌-◌, Bool, List, length}
use Rattle.conn_log.specs.declared.entry.Entry.{Entry}
use Rattle.conn_log.specs.Connections.{open_connections, idle_connections}
use Rattle.conn_log.specs.Waiting.{waiting}
use Rattle.budget.specs.declared.permits.Held.{Held}
use Rattle.budget.specs.Permits.{held}
use Rattle.host_state.specs.declared.snapshot.Snapshot.{Snapshot}

-- what a budget's part holds is what the log counts: a permit for each open connection, and one for each
-- idle one
abbrev pub held_by : List Entry → Held
held_by log = held (length (open_connections log)) (length (idle_connections log))

-- what a look tells: the counts of the log, and the mark
abbrev pub snapshot_of : List Entry → Bool → Snapshot
snapshot_of log queued = record { alive = length (open_connections log); idle = length (idle_connections log); leased = length (open_connections log) - length (idle_connections log); waiting = length (waiting log); queued = queued }
