-- Which events of a host's log an event of a trace becomes, and the rules that a log can't tell of.
use Rattle.std.specs.Prelude.{◌≡◌, ℕ, ◌+◌, Bool, true, false, ◌==◌, if◌then◌else◌, ◌⊎◌, ◌∷◌, length, Option, Some, None, is_some, IsSome}
use Rattle.std.specs.List.{All}
use Rattle.std.specs.Option.{option_or, option_map, option_map_or, option_and_then}
use Rattle.conn_log.specs.declared.entry.Want.{Want}
use Rattle.conn_log.specs.declared.entry.Cause.{Cause}
use Rattle.conn_log.specs.declared.entry.Cause.TheVariants.{Dropped, TooOld}
use Rattle.conn_log.specs.declared.entry.Event.{Event}
use Rattle.conn_log.specs.declared.entry.Event.TheVariants.{Opened, Leased, Returned, Closed, Waited, Left, Limit}
use Rattle.conn_log.specs.declared.entry.Entry.{Entry}
use Rattle.conn_log.specs.Legal.{IsLegal}
use Rattle.log_judge.specs.Rules.{first_broken}
use Rattle.log_judge.specs.Tables.{HostLog}
use Rattle.log_judge.specs.AllHosts.{AllHosts, host_at, more_at}
use Rattle.trace_text.specs.declared.line.TracedEvent.{TracedEvent}
use Rattle.trace_text.specs.declared.line.TracedEvent.TheVariants as traced
use Rattle.budget.specs.Limits.{or_greatest}
use Rattle.audit.specs.declared.ended.Ended.{Ended}
use Rattle.audit.specs.declared.host.TracedConnection.{TracedConnection}
use Rattle.audit.specs.declared.hosts.Breach.{Breach}
use Rattle.audit.specs.declared.hosts.Breach.TheVariants.{InLog, Beside}
use Rattle.audit.specs.declared.rule.Name.{Name}
use Rattle.audit.specs.declared.rule.Rule.{Rule}
use Rattle.audit.specs.declared.rule.Rule.TheVariants.{CameBack, NotHeld, OtherCause}
use Rattle.audit.specs.Endings.{cause_of_end, is_closed_for, persistent, facts_of_end}

-- what is known of an event's connection, if that is open: its number in the log, which is else 0, that of none; and why
-- it has to be closed, if it came back to be
abbrev pub number_in : Option TracedConnection → ℕ
number_in known = option_map_or (λ (k : TracedConnection). k.number) known 0

abbrev pub end_in : Option TracedConnection → Option Ended
end_in known = option_and_then (λ (k : TracedConnection). k.ended) known

abbrev pub holder_in : Option TracedConnection → Option ℕ
holder_in known = option_and_then (λ (k : TracedConnection). k.holder) known

-- a close without a cause is read as closed for the one that is allowed
abbrev pub cause_read : Option Cause → Option TracedConnection → Cause
cause_read (Some cause) known = cause
cause_read None known = if is_some (holder_in known) then Dropped else TooOld

-- a close of a connection that came back to be closed becomes its return, behind which that close follows
abbrev pub close_of : Option Cause → Option TracedConnection → Option Ended → Event
close_of cause known (Some ended) = Returned (number_in known) (facts_of_end ended)
close_of cause known None = Closed (number_in known) (cause_read cause known)

-- the event of the log that an event of a trace becomes; a new connection gets the next number
abbrev pub event_of : TracedEvent → Option TracedConnection → ℕ → Want → Event
event_of (traced.Opened c t) known next want = Opened next want
event_of (traced.Leased c t) known next want = Leased (number_in known) want
event_of (traced.Returned c t) known next want = Returned (number_in known) persistent
event_of (traced.Closed c cause) known next want = close_of cause known (end_in known)
event_of (traced.Waited t) known next want = Waited want
event_of (traced.Left t) known next want = Left t
event_of (traced.Limit n) known next want = Limit (or_greatest n)

-- the close that follows
abbrev pub close_behind : TracedEvent → Option TracedConnection → Option Event
close_behind (traced.Closed c cause) known = option_and_then (λ (ended : Ended). Some (Closed (number_in known) (cause_of_end ended))) (end_in known)
close_behind _ known = None

-- the rules that a log can't tell of: a connection is returned by another than its holder, or once more though it is to
-- be closed; it is closed for another cause than it has to be
abbrev pub returned_beside : Name → ℕ → Option Ended → Option ℕ → Option Rule
returned_beside name transfer (Some ended) holder = Some (CameBack name)
returned_beside name transfer None holder = if option_map_or (λ (t : ℕ). t == transfer) holder false then None else Some (NotHeld transfer holder)

abbrev pub closed_beside : Cause → Option Ended → Option Rule
closed_beside cause None = None
closed_beside cause (Some ended) = if is_closed_for ended cause then None else Some (OtherCause ended)

abbrev pub beside_log : ℕ → TracedEvent → Option TracedConnection → Option Rule
beside_log host (traced.Returned c t) (Some known) = returned_beside (record { host = host; connection = c }) t known.ended known.holder
beside_log host (traced.Closed c (Some cause)) (Some known) = closed_beside cause known.ended
beside_log host _ _ = None

-- all hosts after an event at one of them, and one more that follows it
abbrev pub entry_at : ℕ → Event → Entry
entry_at moment event = record { moment = moment; event = event }

abbrev pub and_behind : ℕ → ℕ → Option Event → AllHosts → AllHosts
and_behind site moment None all = all
and_behind site moment (Some event) all = more_at site (entry_at moment event) all

-- why an event is not taken: the first rule of the log that it breaks, or else one beside the log
abbrev pub breach_of : HostLog → Entry → Option Rule → Option Breach
breach_of host e beside = option_or (option_map InLog (first_broken host.settings host.log e)) (option_map Beside beside)

-- an event is taken, and one that follows it: the host's log with them is legal
pub record IsTaken (site moment : ℕ) (event : Event) (behind : Option Event) (old new : AllHosts) : Type 0 where
  pub now : new ≡ and_behind site moment behind (more_at site (entry_at moment event) old)
  pub legal : let host = host_at old site in IsLegal host.settings (entry_at moment event ∷ host.log)

-- each host's log is legal
abbrev pub AreLegal : AllHosts → Type 0
AreLegal all = All (λ (host : HostLog). IsLegal host.settings host.log) all.hosts

-- so they are, and for each of so many hosts there is one log
pub record AreKept (all : AllHosts) (tables : ℕ) : Type 0 where
  pub legal : AreLegal all
  pub count : length all.hosts ≡ tables
