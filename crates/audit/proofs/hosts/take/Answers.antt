use Rattle.log_judge.specs.AllHosts.{host_at}
use Rattle.audit.specs.Events.{entry_at}
use Rattle.audit.proofs.Outcomes.{unbroken}
use Rattle.audit.proofs.hosts.take.Goals as goal

pub returns-in-Ok-clause-breach : goal.returns-in-Ok-clause-breach
returns-in-Ok-clause-breach c =
    let events = c.args.events.now in
    unbroken c.take_owed_close.result (host_at c.args.monitor.now events.site) (entry_at events.moment events.event) events.extra_rule c.take_owed_close.ensures.none c.in-Ok.ensures.legal c.in-None.is
