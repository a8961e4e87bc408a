use Rattle.std.proofs.Common.{◌≡◌, ◌+◌, ◌-◌, ◌≤◌, length, vec_len, vec_capacity}
use Rattle.conn_log.specs.Connections.{last_moment, open_connections, idle_connections}
use Rattle.conn_log.specs.Waiting.{waiting}
use Rattle.conn_log.specs.Sound.{WaitOnce}
use Rattle.host_state.specs.State.{IsSameHost, limit_of}
use Rattle.host_state.specs.Calls.{open_for_first}
use Rattle.bundle.specs.Grants.{with_first, HasSpare, grant_starts}
use Rattle.bundle.specs.Seats.{IsSeated, AreUnclaimed, OnlyStarts}
use Rattle.bundle.proofs.serving.open_for_first.Given as goal

abbrev pub decreases-loop-opened : goal.decreases-loop-opened
decreases-loop-opened g l = l.count - l.opened

abbrev pub invariant-loop-opened : goal.invariant-loop-opened
invariant-loop-opened g l = record {
  within : l.opened ≤ l.count;
  log_left : open_for_first (l.count - l.opened) l.fn.state.settings l.moment l.state.log ≡ open_for_first l.count l.fn.state.settings l.moment l.fn.state.log;
  grants_left : with_first (l.count - l.opened) l.fn.state.settings l.moment l.state.log l.grants.items ≡ with_first l.count l.fn.state.settings l.moment l.fn.state.log l.fn.grants.items;
  later : last_moment l.state.log ≤ l.moment;
  once : WaitOnce (waiting l.state.log);
  wait : l.count ≤ length (waiting l.state.log) + l.opened;
  more_open : length (open_connections l.state.log) ≡ length (open_connections l.fn.state.log) + l.opened;
  as_many_idle : length (idle_connections l.state.log) ≡ length (idle_connections l.fn.state.log);
  limit : limit_of l.state ≡ limit_of l.fn.state;
  seated : IsSeated l.state.log l.seats;
  unclaimed : AreUnclaimed (grant_starts l.grants.items) l.seats;
  starts : OnlyStarts l.fn.seats l.seats;
  spare : HasSpare l.state.log l.state.booked (vec_len l.grants) (vec_capacity l.grants);
  streams : l.state.streams ≡ l.fn.state.streams;
  booked : l.state.booked ≡ l.fn.state.booked;
  same : IsSameHost l.fn.state l.state;
}
