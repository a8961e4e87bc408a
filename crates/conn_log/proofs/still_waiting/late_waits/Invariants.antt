use Rattle.std.proofs.Common.{reverse, nat_eq}
use Rattle.std.specs.HashSet.{contains}
use Rattle.conn_log.proofs.Waits.{IsFoundFrom}
use Rattle.conn_log.proofs.still_waiting.late_waits.Given as goal

abbrev pub invariant-loop-place : goal.invariant-loop-place
invariant-loop-place l = IsFoundFrom l.rest l.place (reverse l.wants.items) (contains nat_eq l.gone)

abbrev pub decreases-loop-place : goal.decreases-loop-place
decreases-loop-place l = l.place
