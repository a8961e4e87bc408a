use Rattle.std.proofs.Common.{◌≡◌, ◌+◌, ◌≤◌, length, take, drop}
use Rattle.std.specs.VecDeque.{deque_capacity}
use Rattle.conn_log.specs.declared.entry.Cause.TheVariants.{HostRoom}
use Rattle.conn_log.specs.Connections.{last_moment}
use Rattle.host_state.specs.Steps.{close_each}
use Rattle.host_state.specs.Idle.{numbers}
use Rattle.host_state.proofs.state.close_oldest_of.Given as goal

abbrev pub invariant-loop-left : goal.invariant-loop-left
invariant-loop-left g l = record {
  later : last_moment l.log.entries ≤ l.moment;
  some : l.left ≤ length l.idle.items;
  room : l.left ≤ l.log.room;
  within : l.left ≤ l.count;
  items : drop l.left l.idle.items ≡ drop l.count l.initial.idle.items;
  capacity : deque_capacity l.idle ≡ deque_capacity l.initial.idle;
  entries : close_each HostRoom l.moment (take l.left (numbers l.idle.items)) l.log.entries ≡ close_each HostRoom l.moment (take l.count (numbers l.initial.idle.items)) l.initial.log.entries;
  cut_away : l.log.cut_away ≡ l.initial.log.cut_away;
  spent : l.initial.log.room + l.left ≤ l.log.room + l.count;
}

abbrev pub decreases-loop-left : goal.decreases-loop-left
decreases-loop-left g l = l.left
