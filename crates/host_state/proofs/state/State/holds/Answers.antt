use Rattle.std.proofs.Common.{is_some, ap, ◌∙◌}
use Rattle.conn_log.specs.Connections.{holds, held_number}
use Rattle.host_state.specs.State.{HostState}
use Rattle.host_state.proofs.Replaying.{table_holds, table_numbered}
use Rattle.host_state.proofs.state.State.holds.Goals as goal

pub returns-clause-holds : goal.returns-clause-holds
returns-clause-holds g c = c.contains_key.ensures ∙ table_holds c.self.invariant.replays c.args.transfer ∙ ap (λ (host : HostState g.row.S.Denot). holds host.log c.args.transfer) c.self.view_is

pub returns-clause-number : goal.returns-clause-number
returns-clause-number g c = c.contains_key.ensures ∙ table_numbered c.self.invariant.replays c.args.transfer ∙ ap (λ (host : HostState g.row.S.Denot). is_some (held_number host.log c.args.transfer)) c.self.view_is
