-- What comes of an event of a trace.
use Rattle.std.specs.Prelude.{◌≡◌, true, Option, None, IsSome}
use Rattle.conn_log.specs.declared.entry.Want.{Want}
use Rattle.log_judge.specs.AllHosts.{AllHosts, host_at}
use Rattle.trace_text.specs.declared.line.Traced.{Traced}
use Rattle.audit.specs.declared.host.TracedHost.{TracedHost}
use Rattle.audit.specs.declared.hosts.Outcome.{Outcome}
use Rattle.audit.specs.declared.hosts.Outcome.TheVariants.{Taken, HeldBack, PassedBy, Broken}
use Rattle.audit.specs.Tables.{known_in, next_in, passes_by, end_of, IsJudgedBy}
use Rattle.audit.specs.Events.{event_of, close_behind, beside_log, entry_at, breach_of, IsTaken}

module _ (tables : TracedHost) (event : Traced) where
  -- it is taken, with what is known of its connection, and its transfer's want
  pub record Takes (old new : AllHosts) : Type 0 where
    pub want : Want
    pub judged : IsJudgedBy tables event.event want
    pub taken : IsTaken event.host event.moment (event_of event.event (known_in tables event.event) (next_in tables) want) (close_behind event.event (known_in tables event.event)) old new
    pub beside : beside_log event.host event.event (known_in tables event.event) ≡ None

  -- it breaks a rule
  pub record Refuses (old : AllHosts) : Type 0 where
    pub want : Want
    pub judged : IsJudgedBy tables event.event want
    pub breach : IsSome (breach_of (host_at old event.host) (entry_at event.moment (event_of event.event (known_in tables event.event) (next_in tables) want)) (beside_log event.host event.event (known_in tables event.event)))

  -- it is taken; it is a return that is held back until its connection is closed; it is of a connection whose opening was not
  -- taken; or it breaks a rule. Only an event that is taken changes a log
  abbrev pub IsOutcome : Outcome → AllHosts → AllHosts → Type 0
  IsOutcome Taken old new = Takes old new
  IsOutcome HeldBack old new = (new ≡ old) × IsSome (end_of tables event.event (known_in tables event.event))
  IsOutcome PassedBy old new = (new ≡ old) × (passes_by tables event.event ≡ true)
  IsOutcome (Broken broken) old new = (new ≡ old) × Refuses old

-- that, whatever the tables of its host say
pub record ComesOf (event : Traced) (outcome : Outcome) (old new : AllHosts) : Type 0 where
  pub tables : TracedHost
  pub comes : IsOutcome tables event outcome old new
