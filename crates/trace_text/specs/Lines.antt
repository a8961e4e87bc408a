-- What a line of a trace says.
use Rattle.std.specs.Prelude.{ℕ, ◌^◌, Bool, true, false, ◌||◌, ◌&&◌, ◌==◌, nat_lt, if◌then◌else◌, codes, List, [], ◌∷◌, length, take, drop, Option, Some, None, Result, Ok, Err}
use Rattle.std.specs.Option.{option_map}
use Rattle.std.specs.List.{position_or_len}
use Rattle.std.specs.Str.{bytes_eq}
use Rattle.conn_log.specs.declared.entry.Cause.{Cause}
use Rattle.conn_log.specs.declared.entry.Cause.TheVariants.{NotPersistent, Cut, Forbidden, TooOld, HostRoom, TotalRoom, CacheFull, Dropped, Withdrawn, Pruned}
use Rattle.streams.specs.Words.{words, number, number_first, text_first, is_none_left}
use Rattle.script_text.specs.Grammar.{◌>>=◌, command_of, is_comment, LONGEST_LINE}
use Rattle.script_text.specs.Printing.{cause_word}
use Rattle.script_text.specs.declared.command.Command.{Command}
use Rattle.script_text.specs.declared.command.Command.TheVariants as commands
use Rattle.script_text.specs.declared.command.HostCommand.TheVariants as asks
use Rattle.script_text.specs.declared.command.Action.{Action}
use Rattle.script_text.specs.declared.command.Action.TheVariants as actions
use Rattle.script_text.specs.declared.fault.FaultKind.{FaultKind}
use Rattle.script_text.specs.declared.fault.FaultKind.TheVariants.{LineTooLong, Form}
use Rattle.trace_text.specs.declared.line.Line.{Line}
use Rattle.trace_text.specs.declared.line.Line.TheVariants as lines
use Rattle.trace_text.specs.declared.line.TracedEvent.{TracedEvent}
use Rattle.trace_text.specs.declared.line.TracedEvent.TheVariants as events

-- H.C: a host's index, and the number that the pool gave a connection, on the two sides of the first dot
abbrev pub is_dot : ℕ → Bool
is_dot byte = byte == 46

abbrev pub connection_split : List ℕ → List ℕ → Option (ℕ × ℕ)
connection_split host [] = None
connection_split host (dot ∷ digits) = number (2 ^ 32) host >>= λ h. option_map (λ c. (h, c)) (number (2 ^ 64) digits)

unfoldable pub connection_of : List ℕ → Option (ℕ × ℕ)
connection_of word = let place = position_or_len is_dot word in connection_split (take place word) (drop place word)

abbrev pub connection_first : List (List ℕ) → Option ((ℕ × ℕ) × List (List ℕ))
connection_first [] = None
connection_first (word ∷ others) = option_map (λ named. (named, others)) (connection_of word)

-- CAUSE: the cause that a transcript calls so
unfoldable pub cause_of : List ℕ → Option Cause
cause_of word =
    if bytes_eq word (cause_word NotPersistent) then Some NotPersistent else (
    if bytes_eq word (cause_word Cut) then Some Cut else (
    if bytes_eq word (cause_word Forbidden) then Some Forbidden else (
    if bytes_eq word (cause_word TooOld) then Some TooOld else (
    if bytes_eq word (cause_word HostRoom) then Some HostRoom else (
    if bytes_eq word (cause_word TotalRoom) then Some TotalRoom else (
    if bytes_eq word (cause_word CacheFull) then Some CacheFull else (
    if bytes_eq word (cause_word Dropped) then Some Dropped else (
    if bytes_eq word (cause_word Withdrawn) then Some Withdrawn else (
    if bytes_eq word (cause_word Pruned) then Some Pruned else None)))))))))

-- a cause, or none where the moment follows at once
abbrev pub cause_first : List (List ℕ) → Option (Option Cause × List (List ℕ))
cause_first [] = None
cause_first (word ∷ others) =
    if bytes_eq word (codes "at") then Some (None, word ∷ others)
    else option_map (λ cause. (Some cause, others)) (cause_of word)

-- at M
abbrev pub moment_first : List (List ℕ) → Option (ℕ × List (List ℕ))
moment_first rest = text_first (codes "at") rest >>= number_first (2 ^ 64)

abbrev pub if_blank : List (List ℕ) → ℕ → ℕ → TracedEvent → Option Line
if_blank rest host moment event =
    if is_none_left rest then Some (lines.Event (record { host = host; moment = moment; event = event })) else None

-- order host
unfoldable pub order_form : List (List ℕ) → Option Line
order_form rest = text_first (codes "host") rest >>= λ left. if is_none_left left then Some lines.OrderHost else None

-- rest
unfoldable pub rest_form : List (List ℕ) → Option Line
rest_form rest = if is_none_left rest then Some lines.Rest else None

-- opened H.C for T at M, leased H.C to T at M, returned H.C by T at M
unfoldable pub start_of : List ℕ → ℕ → ℕ → TracedEvent
start_of name c transfer =
    if bytes_eq name (codes "opened") then events.Opened c transfer else (
    if bytes_eq name (codes "leased") then events.Leased c transfer else events.Returned c transfer)

unfoldable pub start_form : List ℕ → List ℕ → List (List ℕ) → Option Line
start_form name to rest = do
  named ← connection_first rest
  left ← text_first to named.1
  transfer ← number_first (2 ^ 64) left
  moment ← moment_first transfer.1
  if_blank moment.1 named.0.0 moment.0 (start_of name named.0.1 transfer.0)

-- closed H.C CAUSE at M, or without a cause
unfoldable pub closed_form : List (List ℕ) → Option Line
closed_form rest = do
  named ← connection_first rest
  cause ← cause_first named.1
  moment ← moment_first cause.1
  if_blank moment.1 named.0.0 moment.0 (events.Closed named.0.1 cause.0)

-- waits T host H at M, left T host H at M
unfoldable pub wait_form : Bool → List (List ℕ) → Option Line
wait_form has_left rest = do
  transfer ← number_first (2 ^ 64) rest
  left ← text_first (codes "host") transfer.1
  host ← number_first (2 ^ 32) left
  moment ← moment_first host.1
  if_blank moment.1 host.0 moment.0 (if has_left then events.Left transfer.0 else events.Waited transfer.0)

-- a command of a script says what was asked, but for limit, which says that there is a new one
abbrev pub line_of_action : ℕ → Action → Line
line_of_action site (actions.Limit n moment) = lines.Event (record { host = site; moment = moment; event = events.Limit n })
line_of_action site action = lines.Command (commands.Ask (asks.At site action))

abbrev pub line_of_command : Command → Line
line_of_command (commands.Ask (asks.At site action)) = line_of_action site action
line_of_command command = lines.Command command

abbrev pub if_command : Result Command FaultKind → Result Line FaultKind
if_command (Ok command) = Ok (line_of_command command)
if_command (Err kind) = Err kind

-- replies of a transcript are passed over, those to an upkeep too
abbrev pub is_zero_alone : List (List ℕ) → Bool
is_zero_alone [] = false
is_zero_alone (word ∷ others) = bytes_eq word (codes "0") && is_none_left others

abbrev pub is_reply : List ℕ → List (List ℕ) → Bool
is_reply name rest =
    if bytes_eq name (codes "upkeep") then is_zero_alone rest else
    (bytes_eq name (codes "claimed") || bytes_eq name (codes "still") || bytes_eq name (codes "host") || bytes_eq name (codes "refused"))

-- a known line has its form, or else it is wrong
abbrev pub formed : Option Line → Result Line FaultKind
formed None = Err Form
formed (Some line) = Ok line

unfoldable pub line_named : List ℕ → List (List ℕ) → Result Line FaultKind
line_named name rest =
    if bytes_eq name (codes "order") then formed (order_form rest) else (
    if bytes_eq name (codes "rest") then formed (rest_form rest) else (
    if bytes_eq name (codes "opened") then formed (start_form (codes "opened") (codes "for") rest) else (
    if bytes_eq name (codes "leased") then formed (start_form (codes "leased") (codes "to") rest) else (
    if bytes_eq name (codes "returned") then formed (start_form (codes "returned") (codes "by") rest) else (
    if bytes_eq name (codes "closed") then formed (closed_form rest) else (
    if bytes_eq name (codes "waits") then formed (wait_form false rest) else (
    if bytes_eq name (codes "left") then formed (wait_form true rest) else if_command (command_of name rest))))))))

abbrev pub present : Result Line FaultKind → Result (Option Line) FaultKind
present (Ok line) = Ok (Some line)
present (Err kind) = Err kind

abbrev pub reading_of : List (List ℕ) → Result (Option Line) FaultKind
reading_of [] = Ok None
reading_of (name ∷ rest) = if is_reply name rest then Ok None else present (line_named name rest)

unfoldable pub trace_reading : List ℕ → Result (Option Line) FaultKind
trace_reading line = if nat_lt LONGEST_LINE (length line) then Err LineTooLong else (if is_comment line then Ok None else reading_of (words line))
