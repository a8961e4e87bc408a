use Rattle.std.proofs.Common.{◌≡◌, reverse, take}
use Rattle.conn_log.specs.Bases.{lead}
use Rattle.conn_log.specs.Counts.{counts, both_counts}
use Rattle.conn_log.specs.Waiting.{waiting_since}
use Rattle.conn_log.proofs.base.Base.lead.Given as goal

abbrev pub invariant-loop-entry : goal.invariant-loop-entry
invariant-loop-entry l = record {
  waits : l.base.waiting ≡ waiting_since l.fn.self.waiting (reverse l.fn.rest);
  counted : l.base.counts ≡ both_counts l.fn.self.counts (counts (reverse l.fn.rest));
  others : l.base ≡ record (lead l.fn.self (reverse (take l.entry-index l.fn.rest))) { waiting = l.base.waiting; counts = l.base.counts };
}
