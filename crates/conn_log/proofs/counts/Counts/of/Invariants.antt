use Rattle.std.proofs.Common.{◌≡◌, ◌≤◌, reverse, take}
use Rattle.conn_log.specs.Counts.{counts}
use Rattle.conn_log.proofs.counts.Counts.of.Given as goal

abbrev pub invariant-loop-entry : goal.invariant-loop-entry
invariant-loop-entry l = record {
  counted : l.counts ≡ counts (reverse (take l.entry-index l.entries));
  opened : l.counts.opened ≤ l.entry-index;
  reused : l.counts.reused ≤ l.entry-index;
  closed : l.counts.closed ≤ l.entry-index;
  waited : l.counts.waited ≤ l.entry-index;
}
