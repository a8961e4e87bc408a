-- The lines of a transcript.
use Rattle.std.specs.Prelude.{◌≡◌, ℕ, ◌-◌, zero, suc, Bool, codes, if◌then◌else◌, List, [], ◌∷◌, ◌++◌, length, unwrap_or, Result, Ok, Err}
use Rattle.std.specs.Fmt.{decimal}
use Rattle.conn_log.specs.declared.entry.Cause.{Cause}
use Rattle.conn_log.specs.declared.entry.Cause.TheVariants.{NotPersistent, Cut, Forbidden, TooOld, HostRoom, TotalRoom, CacheFull, Dropped, Withdrawn, Pruned}
use Rattle.conn_log.specs.declared.entry.Event.{Event}
use Rattle.conn_log.specs.declared.entry.Event.TheVariants.{Opened, Leased, Returned, Closed, Waited, Left, Limit}
use Rattle.conn_log.specs.declared.entry.Entry.{Entry}
use Rattle.conn_log.specs.Connections.{holder}
use Rattle.script_text.specs.declared.fault.FaultKind.{FaultKind}
use Rattle.script_text.specs.declared.fault.FaultKind.TheVariants.{Memory}

-- the word of each cause
abbrev pub cause_word : Cause → List ℕ
cause_word NotPersistent = codes "not-persistent"
cause_word Cut = codes "cut"
cause_word Forbidden = codes "forbidden"
cause_word TooOld = codes "too-old"
cause_word HostRoom = codes "host-room"
cause_word TotalRoom = codes "total-room"
cause_word CacheFull = codes "cache-full"
cause_word Dropped = codes "dropped"
cause_word Withdrawn = codes "withdrawn"
cause_word Pruned = codes "pruned"

-- the line of one event, less its moment: H.C is the connection, by its host's index and its number; `by` is the transfer that a connection comes back from
abbrev pub event_text : ℕ → ℕ → Event → List ℕ
event_text host by (Opened c want) = codes "opened " ++ (decimal host ++ (codes "." ++ (decimal c ++ (codes " for " ++ decimal want.transfer))))
event_text host by (Leased c want) = codes "leased " ++ (decimal host ++ (codes "." ++ (decimal c ++ (codes " to " ++ decimal want.transfer))))
event_text host by (Returned c facts) = codes "returned " ++ (decimal host ++ (codes "." ++ (decimal c ++ (codes " by " ++ decimal by))))
event_text host by (Closed c cause) = codes "closed " ++ (decimal host ++ (codes "." ++ (decimal c ++ (codes " " ++ cause_word cause))))
event_text host by (Waited want) = codes "waits " ++ (decimal want.transfer ++ (codes " host " ++ decimal host))
event_text host by (Left transfer) = codes "left " ++ (decimal transfer ++ (codes " host " ++ decimal host))
event_text host by (Limit n) = codes "limit " ++ (decimal host ++ (codes " " ++ decimal n))

abbrev pub entry_line : ℕ → ℕ → Entry → List ℕ
entry_line host by e = event_text host by e.event ++ (codes " at " ++ (decimal e.moment ++ codes "\n"))

-- the transfer that a connection comes back from: the one that held it before
abbrev pub returned_by : List Entry → Event → ℕ
returned_by before (Returned c facts) = unwrap_or (holder before c) 0
returned_by before _ = 0

-- the lines of a host's newest entries, oldest first
abbrev pub newest_lines : ℕ → ℕ → List Entry → List ℕ
newest_lines host zero log = []
newest_lines host (suc n) [] = []
newest_lines host (suc n) (e ∷ before) = newest_lines host n before ++ entry_line host (returned_by before e.event) e

-- the lines of the entries that were added to a host's log
unfoldable pub lines_since : ℕ → List Entry → List Entry → List ℕ
lines_since host old new = newest_lines host (length new - length old) new

-- a reply to what is refused
abbrev pub refused : List ℕ → List ℕ
refused word = codes "refused " ++ (word ++ codes "\n")

-- the replies to a claim: the connection that the transfer was granted, or that it still waits
abbrev pub claimed_line : ℕ → ℕ → List ℕ
claimed_line host c = codes "claimed " ++ (decimal host ++ (codes "." ++ (decimal c ++ codes "\n")))

abbrev pub still_line : List ℕ
still_line = codes "still waiting\n"

-- the reply to an upkeep, and to a new limit where more connections are held than it allows
abbrev pub upkeep_line : ℕ → List ℕ
upkeep_line kept = codes "upkeep " ++ (decimal kept ++ codes "\n")

abbrev pub too_many_leased_line : ℕ → List ℕ
too_many_leased_line held = codes "refused leased " ++ (decimal held ++ codes "\n")

abbrev pub yes_or_no : Bool → List ℕ
yes_or_no answer = if answer then codes "yes" else codes "no"

-- the reply to a look
abbrev pub look_line : ℕ → ℕ → ℕ → ℕ → ℕ → Bool → List ℕ
look_line host alive idle leased waiting queued =
    codes "host " ++ (decimal host ++ (codes " open " ++ (decimal alive ++ (codes " idle " ++ (decimal idle
    ++ (codes " leased " ++ (decimal leased ++ (codes " waiting " ++ (decimal waiting
    ++ (codes " queued " ++ (yes_or_no queued ++ codes "\n")))))))))))

-- a text that is that, unless memory ran out
abbrev pub GivesText : {T : Type 0} → (T → List ℕ) → List ℕ → Result T FaultKind → Type 0
GivesText bytes meant (Ok text) = bytes text ≡ meant
GivesText bytes meant (Err kind) = kind ≡ Memory
