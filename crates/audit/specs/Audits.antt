-- An audit of a trace, as contracts see it, and what one more line does to it.
use Rattle.std.specs.Prelude.{◌≡◌, ℕ, ◌+◌, ◌-◌, ◌^◌, ◌≤◌, ◌⊎◌, ◌||◌, min, Bool, true, false, Option, Some, None, IsSome, Result, Ok}
use Rattle.std.specs.Option.{option_or, option_map, option_map_or}
use Rattle.std.specs.List.{sum_by}
use Rattle.log_judge.specs.Tables.{open_at}
use Rattle.budget.specs.Limits.{Bounds}
use Rattle.log_judge.specs.AllHosts.{AllHosts, begun_hosts}
use Rattle.script_text.specs.declared.fault.FaultKind.{FaultKind}
use Rattle.trace_text.specs.declared.line.Traced.{Traced}
use Rattle.trace_text.specs.declared.line.TracedEvent.{TracedEvent}
use Rattle.trace_text.specs.declared.line.TracedEvent.TheVariants.{Waited}
use Rattle.trace_text.specs.declared.line.Line.{Line}
use Rattle.trace_text.specs.declared.line.Line.TheVariants as lines
use Rattle.audit.specs.declared.hosts.Outcome.{Outcome}
use Rattle.audit.specs.declared.hosts.Outcome.TheVariants.{Taken, HeldBack, PassedBy, Broken}
use Rattle.audit.specs.Outcomes.{ComesOf}

-- how many lines were read, how many told of events, how many of connections whose opening was not taken, and whether any
-- told of a wait
pub record Counts : Type 0 where
  pub lines : ℕ
  pub events : ℕ
  pub passed_by : ℕ
  pub has_waits : Bool

-- the limits that were read, how many sites there are, the hosts once they were made, how many violations were found, and the
-- counts of lines
pub record Audited : Type 0 where
  pub limits : Option Bounds
  pub sites : ℕ
  pub hosts : Option AllHosts
  pub found : ℕ
  pub counts : Counts

abbrev pub not_begun : Audited
not_begun = record { limits = None; sites = 0; hosts = None; found = 0; counts = record { lines = 0; events = 0; passed_by = 0; has_waits = false } }

-- how many connections are open
abbrev pub open_in : Option AllHosts → ℕ
open_in hosts = option_map_or (λ (all : AllHosts). sum_by open_at all.hosts) hosts 0

-- begun: the hosts, which are made at the first line after the limits and the sites
abbrev pub begun_in : Audited → Option AllHosts
begun_in audit = option_or audit.hosts (option_map (λ (limits : Bounds). begun_hosts limits audit.sites) audit.limits)

pub record Begins (old new : Audited) : Type 0 where
  pub hosts : new.hosts ≡ begun_in old
  pub there : IsSome new.hosts
  pub found : new.found ≡ old.found
  pub counts : new.counts ≡ old.counts

-- no log changes, and no count; violations at rest may be found
pub record KeepsLogs (old new : Audited) : Type 0 where
  pub hosts : new.hosts ≡ old.hosts
  pub found : old.found ≤ new.found
  pub counts : new.counts ≡ old.counts

-- an event that breaks a rule is one violation more
abbrev pub found_by : Outcome → ℕ
found_by Taken = 0
found_by HeldBack = 0
found_by PassedBy = 0
found_by (Broken broken) = 1

-- what comes of an event at hosts that were made
abbrev pub Comes : Traced → Outcome → Option AllHosts → Option AllHosts → Type 0
Comes event outcome (Some old) (Some new) = ComesOf event outcome old new
Comes event outcome _ _ = ⊥

-- one more, up to the greatest number that a count can have
abbrev pub one_more : ℕ → ℕ
one_more count = min (count + 1) (2 ^ 64 - 1)

abbrev pub passed_more : Outcome → ℕ → ℕ
passed_more PassedBy count = one_more count
passed_more _ count = count

abbrev pub is_wait : TracedEvent → Bool
is_wait (Waited t) = true
is_wait _ = false

-- counted: a line that tells of an event
abbrev pub counted : TracedEvent → Outcome → Counts → Counts
counted event outcome old = record old { events = one_more old.events; passed_by = passed_more outcome old.passed_by; has_waits = old.has_waits || is_wait event }

-- an event is read
pub record ReadsEvent (event : Traced) (old new : Audited) : Type 0 where
  pub outcome : Outcome
  pub comes : Comes event outcome (begun_in old) new.hosts
  pub found : new.found ≡ old.found + found_by outcome
  pub counts : new.counts ≡ counted event.event outcome old.counts

-- another line changes no log; it may make the hosts, and find violations at rest
pub record ReadsOther (old new : Audited) : Type 0 where
  pub hosts : (new.hosts ≡ old.hosts) ⊎ (new.hosts ≡ begun_in old)
  pub found : old.found ≤ new.found
  pub counts : new.counts ≡ old.counts

-- a line is read
abbrev pub ReadsLine : Result (Option Line) FaultKind → Audited → Audited → Type 0
ReadsLine (Ok (Some (lines.Event event))) old new = ReadsEvent event old new
ReadsLine _ old new = ReadsOther old new

-- with a line more
abbrev pub with_line : Audited → Audited
with_line old = record old { counts = record old.counts { lines = one_more old.counts.lines } }
