use Rattle.std.proofs.Common.{◌≡◌, Option, Some, None, sym, subst, ◌∙◌}
use Rattle.std.specs.Prelude.{IfNone}
use Rattle.audit.specs.declared.hosts.Breach.{Breach}
use Rattle.audit.specs.Events.{IsTaken}
use Rattle.audit.proofs.Outcomes.{takes, refuses}
use Rattle.audit.proofs.hosts.read_at.Goals as goal

pub returns-in_ok-note-in-None-clause-outcome : goal.returns-in_ok-note-in-None-clause-outcome
returns-in_ok-note-in-None-clause-outcome c =
    let got = c.in_ok-breach.ensures in
    let event = c.args.traced.now in
    let taken = subst (λ (b : Option Breach). IfNone b (IsTaken event.host event.moment c.event_of.result c.close_behind.result c.args.monitor.now c.take.new.monitor)) c.in-None.is got.taken in
    takes c.args.tables.now event c.connection_of-known.result c.next-next.result c.in_ok-want.want c.event_of.result c.close_behind.result c.beside_log.result c.args.monitor.now c.connection_of-known.ensures c.next-next.ensures c.in_ok-want.ensures c.event_of.ensures c.beside_log.ensures c.take.new.monitor c.close_behind.ensures (sym c.in-None.is ∙ got.breach) taken
