use Rattle.std.proofs.Common.{◌≡◌, ◌+◌, length}
use Rattle.conn_log.specs.Connections.{idle_connections}
use Rattle.host_state.specs.Steps.{picked, without_picked}
use Rattle.host_state.specs.State.{ClosesIdle, open_len, idle_len}
use Rattle.host_state.specs.Counts.{held_by}
use Rattle.bundle.proofs.serving.close_idle.Given as goal

abbrev pub decreases-loop-permits : goal.decreases-loop-permits
decreases-loop-permits g l = length (idle_connections l.state.log)

abbrev pub invariant-loop-permits : goal.invariant-loop-permits
invariant-loop-permits g l = record {
  left : without_picked l.closing l.moment l.state.log ≡ without_picked l.closing l.moment l.fn.state.log;
  count : length (idle_connections l.state.log) + length (picked l.closing l.moment l.fn.state.log) ≡ l.idle_before + length (picked l.closing l.moment l.state.log);
  closes : ClosesIdle l.moment l.fn.state l.state;
  stands : g.P.Permits.stands l.permits;
  stays : g.P.Permits.stays l.fn.permits l.permits;
  unasked : g.P.Permits.asked l.fn.permits l.permits 0 0;
  as_many_held : open_len l.state + idle_len l.fn.state ≡ open_len l.fn.state + idle_len l.state;
  part : g.P.Permits.held l.permits ≡ held_by l.state.log;
}
