use Rattle.std.proofs.Common.{◌≡◌}
use Rattle.transfer_slab.proofs.schedule.Schedule.next_asked.Given as goal

abbrev pub invariant-loop : goal.invariant-loop
invariant-loop l = record {
  same : l.self.lists ≡ l.fn.self.lists;
}
