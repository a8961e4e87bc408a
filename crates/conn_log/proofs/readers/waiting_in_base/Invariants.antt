use Rattle.std.proofs.Common.{◌≡◌, ◌≤◌, length, reverse, take}
use Rattle.conn_log.specs.Scan.{left_waiting}
use Rattle.conn_log.proofs.readers.waiting_in_base.Given as goal

abbrev pub invariant-loop-want : goal.invariant-loop-want
invariant-loop-want l = record {
  counted : l.count ≡ length (left_waiting l.fn.rest (reverse (take l.want-index l.want-items)));
  bounded : l.count ≤ l.want-index;
}
