-- What is kept of a log while its lines are written: who holds which connection, and who waits.
use Rattle.std.specs.Prelude.{◌≡◌, List, map}
use Rattle.conn_log.specs.declared.entry.Entry.{Entry}
use Rattle.conn_log.specs.Connections.{Holding, holdings}
use Rattle.conn_log.specs.Waiting.{waiting}
use Rattle.trace_text.specs.declared.uses.Held.{Held}
use Rattle.trace_text.specs.declared.uses.Uses.{Uses}

abbrev pub holding_of : Held → Holding
holding_of held = record { connection = held.connection; want = held.want }

-- that is what the log says
pub record AreUsesOf (log : List Entry) (uses : Uses) : Type 0 where
  pub held : map holding_of uses.held.items ≡ holdings log
  pub waiting : uses.waiting.items ≡ waiting log
