use Rattle.std.proofs.Common.{◌≡◌, ◌++◌, ℕ, [], reverse, take, nat_eq}
use Rattle.std.specs.HashSet.{contains}
use Rattle.conn_log.specs.Waiting.{waiting_since}
use Rattle.conn_log.specs.Scan.{is_wait_ended, left_waiting}
use Rattle.conn_log.proofs.still_waiting.waiting_since.Given as goal

abbrev pub invariant-loop-want : goal.invariant-loop-want
invariant-loop-want l = record {
  found : reverse l.wants.items ≡ left_waiting (reverse l.fn.rest) (reverse (take l.want-index l.fn.waiting.items)) ++ waiting_since [] (reverse l.fn.rest);
  gone : (t : ℕ) → contains nat_eq l.gone t ≡ is_wait_ended l.fn.rest t;
}
