-- The lines of what the logs of all hosts have more than was told.
use Rattle.std.specs.Prelude.{◌≡◌, ◌≤◌, ℕ, suc, List, [], ◌∷◌, ◌++◌, length, drop, reverse, flat_map, slice_index_or, Some, Result, Ok, Err}
use Rattle.conn_log.specs.declared.entry.Event.{Event}
use Rattle.conn_log.specs.declared.entry.Event.TheVariants.{Returned}
use Rattle.conn_log.specs.declared.entry.Entry.{Entry}
use Rattle.conn_log.specs.Connections.{holder}
use Rattle.cache.specs.AllHosts.{AllHosts, log_at}
use Rattle.script_text.specs.Printing.{entry_line, GivesText}
use Rattle.script_text.specs.declared.fault.FaultKind.{FaultKind}

-- the new log has entries in front of the old one, and of each this is said
abbrev pub SaysAll : (Event → List Entry → Type 0) → List Entry → List Entry → Type 0
SaysAll Says [] old = Unit {0}
SaysAll Says (e ∷ added) old = Says e.event (added ++ old) × SaysAll Says added old

pub record Adds (Says : Event → List Entry → Type 0) (old new : List Entry) : Type 0 where
  pub added : List Entry
  pub whole : new ≡ added ++ old
  pub says : SaysAll Says added old

-- a connection that comes back was held by that transfer
abbrev pub IsReturnedBy : ℕ → Event → List Entry → Type 0
IsReturnedBy by (Returned c facts) before = holder before c ≡ Some by
IsReturnedBy by _ before = Unit {0}

-- a log grew, and what came back then was held by that transfer
abbrev pub GrowsAfter : ℕ → List Entry → List Entry → Type 0
GrowsAfter by old new = Adds (IsReturnedBy by) old new

-- all logs did
pub record AllGrowAfter (by : ℕ) (old new : AllHosts) : Type 0 where
  pub count : length new.logs ≡ length old.logs
  pub each : (host : ℕ) → GrowsAfter by (log_at old host) (log_at new host)

-- the lines of what each host's log has more than so many entries; connections come back from that transfer
abbrev pub lines_told : ℕ → ℕ → List ℕ → List (List Entry) → List ℕ
lines_told by host [] logs = []
lines_told by host tolds [] = []
lines_told by host (told ∷ tolds) (log ∷ logs) = flat_map (entry_line host by) (drop told (reverse log)) ++ lines_told by (suc host) tolds logs

-- no log has fewer entries than were told
pub record WereTold (tolds : List ℕ) (logs : List (List Entry)) : Type 0 where
  pub count : length tolds ≡ length logs
  pub each : (host : ℕ) → slice_index_or tolds host 0 ≤ length (slice_index_or logs host [])

-- a text that has that at its end, unless there was none before or memory ran out
abbrev pub AddsText : {T : Type 0} → (T → List ℕ) → Result T FaultKind → List ℕ → Result T FaultKind → Type 0
AddsText bytes (Ok before) meant result = GivesText bytes (bytes before ++ meant) result
AddsText bytes (Err kind) meant result = result ≡ Err kind
