-- What the rules have to do with legal logs.
use Rattle.std.specs.Prelude.{◌≡◌, ℕ, ◌<◌, ◌≤◌, true, false, List, ◌∷◌, length, slice_index_or, Some, None}
use Rattle.std.specs.List.{sum_by}
use Rattle.conn_log.specs.declared.entry.Entry.{Entry}
use Rattle.conn_log.specs.Legal.{LimitAndFirst, IsLegal, IsQuiet}
use Rattle.conn_log.specs.Sound.{IsSound}
use Rattle.log_judge.specs.declared.violation.Violation.{Violation}
use Rattle.log_judge.specs.Rules.{first_broken}
use Rattle.log_judge.specs.Tables.{HostLog, open_at, idle_at}
use Rattle.log_judge.specs.AllHosts.{AllHosts, waits_beside_room, has_room, first_unrest}

-- an entry that breaks a rule makes no legal log
abbrev pub ABrokenRuleMakesNoLegalLog : Type 0
ABrokenRuleMakesNoLegalLog =
    (settings : LimitAndFirst) (log : List Entry) (e : Entry) (violation : Violation)
    → first_broken settings log e ≡ Some violation
    → IsLegal settings (e ∷ log)
    → ⊥

-- of a legal log the last entry broke no rule
abbrev pub ALegalLogBreaksNoRule : Type 0
ALegalLogBreaksNoRule =
    (settings : LimitAndFirst) (log : List Entry) (e : Entry)
    → IsLegal settings (e ∷ log)
    → first_broken settings log e ≡ None

-- each host is, if its log is sound
abbrev pub AreQuiet : AllHosts → Type 0
AreQuiet all =
    (site : ℕ) (host : HostLog)
    → site < length all.hosts
    → host ≡ slice_index_or all.hosts site host
    → IsSound host.settings host.log
    → IsQuiet host.settings (waits_beside_room host) host.log × (waits_beside_room host ≡ true → has_room all ≡ false)

-- what is settled at rest: the total and what is kept are within their limits, and a host's sound log is quiet, queued
-- for room if a transfer waits there and the host has room; then the total has none
abbrev pub WhatIsSettledIsQuiet : Type 0
WhatIsSettledIsQuiet =
    (all : AllHosts)
    → first_unrest all ≡ None
    → (sum_by open_at all.hosts ≤ all.limits.total) × (sum_by idle_at all.hosts ≤ all.limits.connects) × AreQuiet all
