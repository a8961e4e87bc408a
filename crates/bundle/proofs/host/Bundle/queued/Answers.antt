use Rattle.std.proofs.Common.{ap, ◌∙◌}
use Rattle.host_state.specs.Calls.{is_queued}
use Rattle.bundle.specs.Lease.{HostShown}
use Rattle.host_state.proofs.QueuedHosts.{queued_if}
use Rattle.bundle.proofs.host.Bundle.queued.Goals as goal

pub returns-then-anyone_waits : goal.returns-then-anyone_waits
returns-then-anyone_waits g c =
    let state = c.self.inside.state in
    let anyone = c.anyone_waits.ensures.yes c.if-anyone_waits.true in
    queued_if state.settings state.log c.is_full.result anyone c.is_full.ensures
    ∙ ap (λ (v : HostShown g.row.S.Denot). is_queued v.settings v.log) c.self.view_is
