-- What the tables of a host say of an event of a trace.
use Rattle.std.specs.Prelude.{◌≡◌, ℕ, ◌+◌, ◌-◌, ◌^◌, min, Bool, false, not, ◌||◌, ◌==◌, nat_eq, if◌then◌else◌, Option, Some, None, is_some, IfSome}
use Rattle.std.specs.Option.{option_or, option_map, option_map_or, option_and_then}
use Rattle.std.specs.HashMap.{get}
use Rattle.std.specs.HashSet.{contains}
use Rattle.conn_log.specs.declared.entry.Want.{Want}
use Rattle.script_text.specs.declared.command.Ending.{Ending}
use Rattle.trace_text.specs.declared.line.TracedEvent.{TracedEvent}
use Rattle.trace_text.specs.declared.line.TracedEvent.TheVariants.{Opened, Leased, Returned, Closed, Waited, Left, Limit}
use Rattle.audit.specs.declared.ended.Ended.{Ended}
use Rattle.audit.specs.declared.host.TracedConnection.{TracedConnection}
use Rattle.audit.specs.declared.host.TracedHost.{TracedHost}
use Rattle.audit.specs.declared.host.Waiter.{Waiter}
use Rattle.audit.specs.Endings.{ended_by}

-- the connection of an event, by its pool's number
abbrev pub connection_in : TracedEvent → Option ℕ
connection_in (Opened c t) = Some c
connection_in (Leased c t) = Some c
connection_in (Returned c t) = Some c
connection_in (Closed c cause) = Some c
connection_in (Waited t) = None
connection_in (Left t) = None
connection_in (Limit n) = None

module _ (tables : TracedHost) where
  -- what is known of it, if it is open
  abbrev pub known_in : TracedEvent → Option TracedConnection
  known_in event = option_and_then (λ (c : ℕ). get nat_eq tables.connections c) (connection_in event)

  -- the number of the next connection
  abbrev pub next_in : ℕ
  next_in = min (tables.opened + 1) (2 ^ 32 - 1)

  -- its opening was not taken
  abbrev pub passes_by : TracedEvent → Bool
  passes_by (Leased c t) = contains nat_eq tables.not_taken c
  passes_by (Returned c t) = contains nat_eq tables.not_taken c
  passes_by (Closed c cause) = contains nat_eq tables.not_taken c
  passes_by _ = false

  -- the want with which a transfer waits, or else that of its last get
  abbrev pub want_in : ℕ → Option Want
  want_in transfer = option_or (option_map (λ (w : Waiter). w.want) (get nat_eq tables.waiters transfer)) (get nat_eq tables.asked transfer)

  -- a start or a wait is judged by it, if there is one
  abbrev pub IsWantOf : ℕ → Want → Type 0
  IsWantOf transfer want = IfSome (want_in transfer) (λ (known : Want). want ≡ known)

  abbrev pub IsJudgedBy : TracedEvent → Want → Type 0
  IsJudgedBy (Opened c t) want = IsWantOf t want
  IsJudgedBy (Leased c t) want = IsWantOf t want
  IsJudgedBy (Waited t) want = IsWantOf t want
  IsJudgedBy _ want = Unit {0}

  -- why a connection has to be closed that a transfer returns: it holds it, and its last response, or its want, ends the use
  abbrev pub end_by : ℕ → Option TracedConnection → Option Ended
  end_by transfer None = None
  end_by transfer (Some known) = if is_some known.ended || not (option_map_or (λ (t : ℕ). t == transfer) known.holder false) then None else option_and_then (λ (ending : Ending). ended_by ending known.forbids_reuse) (get nat_eq tables.given transfer)

  abbrev pub end_of : TracedEvent → Option TracedConnection → Option Ended
  end_of (Returned c t) known = end_by t known
  end_of _ known = None
