use Rattle.std.proofs.Common.{is_some, ap, ◌∙◌}
use Rattle.conn_log.specs.Waiting.{waiting}
use Rattle.conn_log.proofs.Queues.{is_waiting}
use Rattle.host_state.specs.State.{HostState}
use Rattle.host_state.proofs.Waits.{is_some-waiting_want}
use Rattle.host_state.proofs.state.State.waits.Goals as goal

pub returns : goal.returns
returns g c =
    let is = c.self.invariant.queue ∙ ap (λ (v : HostState g.row.S.Denot). waiting v.log) c.self.view_is in
    c.is_some.ensures ∙ ap is_some c.want_of.ensures ∙ is_some-waiting_want c.args.transfer c.self.inside.queue.wants ∙ ap (λ wants. is_waiting wants c.args.transfer) is
