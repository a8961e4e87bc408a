-- What the lines of a transcript tell of the logs behind it.
use Rattle.std.specs.Prelude.{◌≡◌, ℕ, ◌<◌, Bool, true, false, not, ◌==◌, ◌||◌, if◌then◌else◌, codes, List, [], ◌∷◌, ◌++◌, filter, length}
use Rattle.std.specs.List.{starts_with, Contains}
use Rattle.std.specs.Str.{bytes_eq}
use Rattle.std.specs.Fmt.{decimal}
use Rattle.conn_log.specs.declared.entry.Want.{Want}
use Rattle.conn_log.specs.declared.entry.Event.{Event}
use Rattle.conn_log.specs.declared.entry.Event.TheVariants.{Leased}
use Rattle.conn_log.specs.declared.entry.Entry.{Entry}
use Rattle.cache.specs.AllHosts.{AllHosts, log_at}
use Rattle.streams.specs.Lines.{lines}
use Rattle.streams.specs.Words.{words}
use Rattle.script_text.specs.Printing.{event_text, returned_by}
use Rattle.script_engine.specs.Transcript.{transcript, whole_text}
use Rattle.script_engine.specs.Law.{all_behind, WasFree}

-- the lines that a script makes the program write
abbrev pub transcript_lines : List ℕ → List (List ℕ)
transcript_lines script = lines (whole_text (transcript script))

abbrev pub begins : List ℕ → List ℕ → Bool
begins text line = starts_with (λ a b. a == b) line text

-- a reply: to a look, to what is refused, to a claim, or to an upkeep
abbrev pub is_reply : List ℕ → Bool
is_reply line = begins (codes "host ") line || begins (codes "refused ") line || begins (codes "claimed ") line || begins (codes "still ") line || begins (codes "upkeep ") line

-- any other line tells of an event
abbrev pub is_event_line : List ℕ → Bool
is_event_line line = not (is_reply line)

-- it names its host: after the transfer that waits or leaves, or before the host's new limit, or before the number of
-- the connection
abbrev pub is_host_after : ℕ → List (List ℕ) → Bool
is_host_after host (word ∷ named ∷ others) = bytes_eq named (decimal host)
is_host_after host _ = false

abbrev pub names_host_in : ℕ → List (List ℕ) → Bool
names_host_in host (verb ∷ subject ∷ others) =
    if bytes_eq verb (codes "waits") || bytes_eq verb (codes "left") then is_host_after host others else (
    if bytes_eq verb (codes "limit") then bytes_eq subject (decimal host) else begins (decimal host ++ codes ".") subject)
names_host_in host _ = false

abbrev pub names_host : ℕ → List ℕ → Bool
names_host host line = names_host_in host (words line)

-- the event lines of a transcript that name a host
abbrev pub lines_naming : ℕ → List ℕ → List (List ℕ)
lines_naming host script = filter (names_host host) (filter is_event_line (transcript_lines script))

abbrev pub begins_leased : List ℕ → Bool
begins_leased line = begins (codes "leased") line

-- the line of an entry of a host, without its line end
abbrev pub entry_text : ℕ → List Entry → Entry → List ℕ
entry_text host before e = event_text host (returned_by before e.event) e.event ++ (codes " at " ++ decimal e.moment)

-- the lines of all entries of a host's log, oldest first
abbrev pub event_lines : ℕ → List Entry → List (List ℕ)
event_lines host [] = []
event_lines host (e ∷ before) = event_lines host before ++ (entry_text host before e ∷ [])

-- leased H.C to T at M
abbrev pub leased_text : ℕ → ℕ → ℕ → ℕ → List ℕ
leased_text host c transfer moment = codes "leased " ++ (decimal host ++ (codes "." ++ (decimal c ++ (codes " to " ++ (decimal transfer ++ (codes " at " ++ decimal moment))))))

abbrev pub leased_by : ℕ → ℕ → Event → List (List ℕ)
leased_by host moment (Leased c want) = leased_text host c want.transfer moment ∷ []
leased_by host moment _ = []

-- the lines of the leases of a host's log, oldest first
abbrev pub leased_lines : ℕ → List Entry → List (List ℕ)
leased_lines host [] = []
leased_lines host (e ∷ before) = leased_lines host before ++ leased_by host e.moment e.event

-- a line tells of a lease in a host's log, of a connection that was free there
pub record TellsOfFreeLease (all : AllHosts) (line : List ℕ) : Type 0 where
  pub host : ℕ
  pub there : host < length all.logs
  pub after : List Entry
  pub before : List Entry
  pub c : ℕ
  pub want : Want
  pub moment : ℕ
  pub place : log_at all host ≡ after ++ record { moment = moment; event = Leased c want } ∷ before
  pub text : line ≡ leased_text host c want.transfer moment
  pub free : WasFree before c

-- a line names a host that is there
pub record NamesAHost (all : AllHosts) (line : List ℕ) : Type 0 where
  pub host : ℕ
  pub there : host < length all.logs
  pub named : names_host host line ≡ true

-- for every script and host, the lines of its transcript that tell of an event and name the host are those of all
-- entries of the host's log, in order; each line that tells of an event names a host that is there; of those of a host
-- those that begin with leased are those of all its leases, in order; and each line of the transcript that begins so
-- tells of a connection that was opened before, came back whole and persistent, and is held by nobody at that place
abbrev pub EveryEventIsTold : Type 0
EveryEventIsTold = (script : List ℕ) (host : ℕ) → lines_naming host script ≡ event_lines host (log_at (all_behind script) host)

abbrev pub EveryEventLineNamesAHost : Type 0
EveryEventLineNamesAHost = (script line : List ℕ) → Contains (transcript_lines script) line → is_event_line line ≡ true → NamesAHost (all_behind script) line

abbrev pub EveryLeaseIsTold : Type 0
EveryLeaseIsTold = (script : List ℕ) (host : ℕ) → filter begins_leased (lines_naming host script) ≡ leased_lines host (log_at (all_behind script) host)

abbrev pub EveryLeasedLineWasFree : Type 0
EveryLeasedLineWasFree = (script line : List ℕ) → Contains (transcript_lines script) line → begins_leased line ≡ true → TellsOfFreeLease (all_behind script) line
