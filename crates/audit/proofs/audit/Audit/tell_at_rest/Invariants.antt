use Rattle.audit.specs.Audits.{KeepsLogs}
use Rattle.audit.proofs.audit.Audit.tell_at_rest.Given as goal

abbrev pub invariant-loop-broken : goal.invariant-loop-broken
invariant-loop-broken l = KeepsLogs l.fn.self l.self
