-- The lines of a log's entries, as they are written into a buffer.
use Rattle.std.specs.Prelude.{◌≡◌, ℕ, ◌+◌, ◌<◌, ◌≤◌, List, ◌++◌, length, take, drop, reverse, Option, Some, None}
use Rattle.conn_log.specs.declared.entry.Entry.{Entry}
use Rattle.script_text.specs.Printing.{lines_since}
use Rattle.trace_text.specs.declared.writing.Stop.{Stop}
use Rattle.trace_text.specs.declared.writing.Stop.TheVariants.{Small, Memory}
use Rattle.trace_text.specs.declared.writing.Told.{Told}

-- the first entries of a log, so many; of them, too, the newest stands first
abbrev pub first_entries : ℕ → List Entry → List Entry
first_entries count log = reverse (take count (reverse log))

-- the lines of a host's entries behind the first ones, up to so many: those that a transcript has of them
abbrev pub lines_between : ℕ → List Entry → ℕ → ℕ → List ℕ
lines_between host log from to = lines_since host (first_entries from log) (first_entries to log)

module _ (host : ℕ) (log : List Entry) (cut_away : ℕ) where
  -- the lines from one place of a log's rest to another, where so many entries were cut away
  abbrev pub rest_lines : ℕ → ℕ → List ℕ
  rest_lines from to = lines_between host log (cut_away + from) (cut_away + to)

  -- why no more lines were written into a buffer of so many bytes: all were, the next one does not fit, or there was no
  -- memory for its text
  abbrev pub StopsAt : ℕ → ℕ → ℕ → Option Stop → Type 0
  StopsAt place written size None = length log ≤ cut_away + place
  StopsAt place written size (Some Small) = (cut_away + place < length log) × (size < written + length (rest_lines place (place + 1)))
  StopsAt place written size (Some Memory) = cut_away + place < length log

  -- the lines from one place of the rest on were written, as far as is told; behind them the buffer is the same
  pub record WritesLines (from : ℕ) (told : Told) (old new : List ℕ) : Type 0 where
    pub onwards : from ≤ told.place
    pub bytes : new ≡ rest_lines from told.place ++ drop told.written old
    pub count : told.written ≡ length (rest_lines from told.place)
    pub stops : StopsAt told.place told.written (length old) told.stop
