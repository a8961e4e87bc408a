-- The hosts behind a script's transcript, and what holds of them.
use Rattle.std.specs.Prelude.{◌≡◌, ℕ, ◌<◌, Bool, ◌||◌, is_some, nat_lt, if◌then◌else◌, true, IsTrue, List, [], ◌∷◌, length, Option, Some, None, Result, Ok, Err}
use Rattle.conn_log.specs.declared.entry.Want.{Want}
use Rattle.conn_log.specs.declared.entry.Event.{Event}
use Rattle.conn_log.specs.declared.entry.Event.TheVariants.{Opened, Leased}
use Rattle.conn_log.specs.declared.entry.Entry.{Entry}
use Rattle.conn_log.specs.Connections.{is_among, is_open, holder, held_number, came_back_persistent}
use Rattle.conn_log.specs.Waiting.{waiting, waits}
use Rattle.conn_log.specs.Legal.{IsLegal, IsAnyone}
use Rattle.cache.specs.AllHosts.{AllHosts, log_at, terms, IsAtRest}
use Rattle.cache.specs.Laws.{WaitsForRoom}
use Rattle.streams.specs.Lines.{lines}
use Rattle.script_engine.specs.Meaning.{AtSite, at_site, new_hosts, bounds_given, Run, start}
use Rattle.script_engine.specs.Transcript.{line_step, LONGEST_SCRIPT}
use Rattle.script_text.specs.declared.command.Limits.{Limits}
use Rattle.script_text.specs.declared.fault.FaultKind.{FaultKind}

-- the run after a script's lines, up to the first that is wrong
abbrev pub after_line : Run → Result (Run × List ℕ) FaultKind → (Run → Run) → Run
after_line run (Err kind) others = run
after_line run (Ok next) others = others next.0

abbrev pub run_after : Run → List (List ℕ) → Run
run_after run [] = run
run_after run (line ∷ others) = after_line run (line_step run line) (λ next. run_after next others)

-- the run behind a transcript; of a script that is too long no line is run
abbrev pub run_behind : List ℕ → Run
run_behind script = if nat_lt LONGEST_SCRIPT (length script) then start else run_after start (lines script)

-- all hosts behind a transcript
abbrev pub all_behind : List ℕ → AllHosts
all_behind script = (run_behind script).hosts.all

-- the limits that a script gives
abbrev pub limits_of : List ℕ → Option Limits
limits_of script = (run_behind script).limits

-- each log is legal under these limits; without limits nothing happened
abbrev pub AreLegalUnder : Option Limits → AllHosts → Type 0
AreLegalUnder None all = (host : ℕ) → log_at all host ≡ []
AreLegalUnder (Some limits) all = (host : ℕ) → host < length all.logs → IsLegal (terms (bounds_given limits)) (log_at all host)

-- all are at rest under these limits
abbrev pub AreAtRestUnder : Option Limits → AllHosts → Type 0
AreAtRestUnder None all = all ≡ (new_hosts 0).all
AreAtRestUnder (Some limits) all = IsAtRest (bounds_given limits) all

-- where a transfer waits there is no room for it: nothing is idle there, and its host is at its limit, or the total is
-- and nothing is idle at any host
abbrev pub WaitForRoomUnder : Option Limits → AllHosts → Type 0
WaitForRoomUnder None all = Unit {0}
WaitForRoomUnder (Some limits) all = (host : ℕ) → host < length all.logs → IsAnyone (waiting (log_at all host)) → WaitsForRoom (bounds_given limits) host all

-- what a leased connection was: open, held by nobody, and last given back whole and persistent
pub record WasFree (before : List Entry) (c : ℕ) : Type 0 where
  pub opened : IsTrue (is_open before c)
  pub held_by_nobody : holder before c ≡ None
  pub persistent : came_back_persistent before c ≡ true

abbrev pub LeasesFree : List Entry → Event → Type 0
LeasesFree before (Leased c want) = WasFree before c
LeasesFree before _ = Unit {0}

abbrev pub EachLeaseWasFree : List Entry → Type 0
EachLeaseWasFree [] = Unit {0}
EachLeaseWasFree (e ∷ before) = LeasesFree before e.event × EachLeaseWasFree before

-- where others wait, a start, on a new connection or on an idle one, is of the one that began to wait first
abbrev pub IsHead : List Want → Want → Type 0
IsHead [] want = Unit {0}
IsHead (head ∷ others) want = want ≡ head

abbrev pub StartsTheHead : List Entry → Event → Type 0
StartsTheHead before (Opened c want) = IsHead (waiting before) want
StartsTheHead before (Leased c want) = IsHead (waiting before) want
StartsTheHead before _ = Unit {0}

abbrev pub EachStartIsOfTheHead : List Entry → Type 0
EachStartIsOfTheHead [] = Unit {0}
EachStartIsOfTheHead (e ∷ before) = StartsTheHead before e.event × EachStartIsOfTheHead before

-- who waits has a ticket, and who has a ticket is served: it waits, or holds what it has yet to claim
abbrev pub is_served : List Entry → ℕ → Bool
is_served log transfer = waits log transfer || is_some (held_number log transfer)

pub record TicketsStand (site : ℕ) (here : AtSite) : Type 0 where
  pub ticketed : (transfer : ℕ) → waits (log_at here.all site) transfer ≡ true → is_among transfer here.tickets ≡ true
  pub served : (transfer : ℕ) → is_among transfer here.tickets ≡ true → is_served (log_at here.all site) transfer ≡ true

-- for every script, the logs behind its transcript are legal, and all its hosts are at rest: each log is quiet by its
-- mark, no sum passes its limit, and whoever waits does so for want of room; each lease in a log is of a connection that
-- was opened before, came back whole and persistent, and is held by nobody at that place; at each host the transfers
-- are served in the order in which they began to wait; and the tickets after it stand
abbrev pub EveryLogIsLegal : Type 0
EveryLogIsLegal = (script : List ℕ) → AreLegalUnder (limits_of script) (all_behind script)

abbrev pub EveryScriptEndsAtRest : Type 0
EveryScriptEndsAtRest = (script : List ℕ) → AreAtRestUnder (limits_of script) (all_behind script)

abbrev pub EveryWaitIsForRoom : Type 0
EveryWaitIsForRoom = (script : List ℕ) → WaitForRoomUnder (limits_of script) (all_behind script)

abbrev pub EveryLeaseWasFree : Type 0
EveryLeaseWasFree = (script : List ℕ) (host : ℕ) → EachLeaseWasFree (log_at (all_behind script) host)

abbrev pub EveryStartIsOfTheHead : Type 0
EveryStartIsOfTheHead = (script : List ℕ) (host : ℕ) → EachStartIsOfTheHead (log_at (all_behind script) host)

abbrev pub EveryTicketStands : Type 0
EveryTicketStands = (script : List ℕ) (site : ℕ) → TicketsStand site (at_site (run_behind script).hosts site)
