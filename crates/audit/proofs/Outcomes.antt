-- What comes of an event, and hosts before any.
use Rattle.std.proofs.Common.{◌≡◌, ℕ, List, [], ◌∷◌, length, replicate, Option, Some, None, Result, Ok, Err, is_some, refl, sym, ap, subst, ◌∙◌, arith}
use Rattle.std.specs.Prelude.{IfOk, IfNone, IsSome}
use Rattle.std.specs.Option.{option_or, option_map}
use Rattle.std.proofs.lemmas.List.{length-replicate}
use Rattle.std.proofs.lemmas.List.Elements.{All-replicate}
use mathlib.Core.Bool.{false≢true}
use Rattle.budget.specs.Limits.{Bounds}
use Rattle.conn_log.specs.declared.entry.Want.{Want}
use Rattle.conn_log.specs.declared.entry.Event.{Event}
use Rattle.conn_log.specs.declared.entry.Entry.{Entry}
use Rattle.conn_log.specs.Legal.{IsLegal}
use Rattle.log_judge.specs.Rules.{first_broken}
use Rattle.log_judge.specs.Tables.{HostLog}
use Rattle.log_judge.specs.AllHosts.{AllHosts, begun, begun_hosts, host_at}
use Rattle.log_judge.proofs.AllowedEvents.{legal_keeps}
use Rattle.trace_text.specs.declared.line.Traced.{Traced}
use Rattle.audit.specs.declared.fault.AuditFault.{AuditFault}
use Rattle.audit.specs.declared.host.TracedConnection.{TracedConnection}
use Rattle.audit.specs.declared.hosts.Breach.{Breach}
use Rattle.audit.specs.declared.hosts.Breach.TheVariants.{InLog, Beside}
use Rattle.log_judge.specs.declared.violation.Violation.{Violation}
use Rattle.audit.specs.declared.rule.Rule.{Rule}
use Rattle.audit.specs.declared.host.TracedHost.{TracedHost}
use Rattle.audit.specs.Tables.{known_in, next_in, IsJudgedBy}
use Rattle.audit.specs.Events.{event_of, close_behind, beside_log, entry_at, breach_of, IsTaken, AreLegal, AreKept}
use Rattle.audit.specs.Outcomes.{Takes, Refuses}

-- an event that a legal log has, and that breaks no rule beside it, breaks none
pub unbroken : (result : Result (Option Breach) AuditFault) (host : HostLog) (e : Entry) (beside : Option Rule) → IfOk result (λ breach. breach ≡ None) → IsLegal host.settings (e ∷ host.log) → beside ≡ None → IfOk result (λ breach. breach ≡ breach_of host e beside)
unbroken (Ok breach) host e beside none legal no_beside = rw (legal_keeps host.settings e host.log legal) (rw no_beside none)
unbroken (Err fault) host e beside none legal no_beside = tt

-- no rule is broken, so none is beside the log
none_beside : (host : HostLog) (e : Entry) (beside : Option Rule) → breach_of host e beside ≡ None → beside ≡ None
none_beside host e None none = refl
none_beside host e (Some rule) none = none_of (first_broken host.settings host.log e) none
  where
    none_of : (broken : Option Violation) → option_or (option_map InLog broken) (option_map Beside (Some rule)) ≡ None → Some rule ≡ None
    none_of None none = absurd (false≢true (sym (ap is_some none)))
    none_of (Some violation) none = absurd (false≢true (sym (ap is_some none)))

-- an event at a host, by what its tables say of it
module _ (tables : TracedHost) (event : Traced) (known : Option TracedConnection) (next : ℕ) (want : Want) (becomes : Event) (behind : Option Event) (beside : Option Rule) (old : AllHosts) (known_is : known ≡ known_in tables event.event) (next_is : next ≡ next_in tables) (judged : IsJudgedBy tables event.event want) (becomes_is : becomes ≡ event_of event.event known next want) (beside_is : beside ≡ beside_log event.host event.event known) where
  becomes_so : becomes ≡ event_of event.event (known_in tables event.event) (next_in tables) want
  becomes_so = becomes_is ∙ ap (λ (k : Option TracedConnection). event_of event.event k next want) known_is ∙ ap (λ (n : ℕ). event_of event.event (known_in tables event.event) n want) next_is

  beside_so : beside ≡ beside_log event.host event.event (known_in tables event.event)
  beside_so = beside_is ∙ ap (beside_log event.host event.event) known_is

  pub takes : (new : AllHosts) → behind ≡ close_behind event.event known → None ≡ breach_of (host_at old event.host) (entry_at event.moment becomes) beside → IsTaken event.host event.moment becomes behind old new → Takes tables event old new
  takes new behind_is none taken = record {
    want = want;
    judged = judged;
    taken = subst (λ (b : Option Event). IsTaken event.host event.moment (event_of event.event (known_in tables event.event) (next_in tables) want) b old new) (behind_is ∙ ap (close_behind event.event) known_is) (subst (λ (e : Event). IsTaken event.host event.moment e behind old new) becomes_so taken);
    beside = sym beside_so ∙ none_beside (host_at old event.host) (entry_at event.moment becomes) beside (sym none);
  }

  pub refuses : (breach : Breach) → Some breach ≡ breach_of (host_at old event.host) (entry_at event.moment becomes) beside → Refuses tables event old
  refuses breach is = record {
    want = want;
    judged = judged;
    breach = subst (λ (e : Event). IsSome (breach_of (host_at old event.host) (entry_at event.moment e) (beside_log event.host event.event (known_in tables event.event)))) becomes_so (subst (λ (b : Option Rule). IsSome (breach_of (host_at old event.host) (entry_at event.moment becomes) b)) beside_so (ap is_some (sym is)));
  }

pub kept_new : (limits : Bounds) (count tables : ℕ) (all : AllHosts) → all ≡ begun_hosts limits count → tables ≡ count → AreKept all tables
kept_new limits count tables all is tables_are = subst (λ (hosts : AllHosts). AreKept hosts tables) (sym is) (record {
  legal = All-replicate (λ (host : HostLog). IsLegal host.settings host.log) count (begun limits.host) tt;
  count = length-replicate count (begun limits.host) ∙ sym tables_are;
})
