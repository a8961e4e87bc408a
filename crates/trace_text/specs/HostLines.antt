-- The trace of logs. A log is read with its newest entry first.
use Rattle.std.specs.Prelude.{ℕ, if◌then◌else◌, codes, List, [], ◌∷◌, ◌++◌, unwrap_or}
use Rattle.std.specs.Fmt.{decimal}
use Rattle.conn_log.specs.declared.entry.Event.{Event}
use Rattle.conn_log.specs.declared.entry.Event.TheVariants.{Opened, Leased, Returned, Waited}
use Rattle.conn_log.specs.declared.entry.Entry.{Entry}
use Rattle.conn_log.specs.declared.entry.Want.{Want}
use Rattle.conn_log.specs.Connections.{holder}
use Rattle.conn_log.specs.Waiting.{waits}
use Rattle.script_text.specs.Printing.{entry_line, returned_by}
use Rattle.trace_text.specs.Asking.{back_line, get_line}

-- the line by which a transfer asked for its start: none, if it waited
abbrev pub start_asked : ℕ → List Entry → ℕ → Want → List ℕ
start_asked host before moment want = if waits before want.transfer then [] else get_line host moment want

-- the line that asks, before that of the event
abbrev pub asked_by : ℕ → List Entry → ℕ → Event → List ℕ
asked_by host before moment (Opened c want) = start_asked host before moment want
asked_by host before moment (Leased c want) = start_asked host before moment want
asked_by host before moment (Waited want) = get_line host moment want
asked_by host before moment (Returned c facts) = back_line host moment (unwrap_or (holder before c) 0) facts
asked_by host before moment _ = []

-- the lines of an entry that follows those of a log
abbrev pub lines_of : ℕ → List Entry → Entry → List ℕ
lines_of host before e = asked_by host before e.moment e.event ++ entry_line host (returned_by before e.event) e

-- the lines of the next entries of a host's log, oldest entry first
abbrev pub part_lines : ℕ → List Entry → List Entry → List ℕ
part_lines host before [] = []
part_lines host before (e ∷ part) = lines_of host before e ++ part_lines host (e ∷ before) part

-- the order, and the limits: of open connections of one host and of all, and of idle ones
abbrev pub limits_lines : ℕ → ℕ → ℕ → List ℕ
limits_lines host total kept = codes "order host\nlimits " ++ (decimal host ++ (codes " " ++ (decimal total ++ (codes " " ++ (decimal kept ++ codes "\n")))))

-- a site: the host and the port of its URL
abbrev pub site_line : List ℕ → ℕ → List ℕ
site_line host port = codes "site http://" ++ (host ++ (codes ":" ++ (decimal port ++ codes "/\n")))
