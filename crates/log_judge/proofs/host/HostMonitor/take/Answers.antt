use Rattle.std.proofs.Common.{sym, ap, ◌∙◌}
use Rattle.log_judge.specs.Rules.{first_broken}
use Rattle.log_judge.specs.Tables.{HostLog, shown}
use Rattle.log_judge.proofs.DueReturns.{may_take}
use Rattle.log_judge.proofs.host.HostMonitor.take.Goals as goal

pub take_event-requires-clause-allowed : goal.take_event-requires-clause-allowed
take_event-requires-clause-allowed c =
    let tables = c.self.inside.tables in
    let same = ap (shown tables) (sym c.in-None.is) ∙ c.self.view_is in
    (may_take _ _ c.args.entry c.last_moment-before.ensures.sound (ap (λ (h : HostLog). first_broken h.settings h.log c.args.entry) same ∙ c.requires)).1
