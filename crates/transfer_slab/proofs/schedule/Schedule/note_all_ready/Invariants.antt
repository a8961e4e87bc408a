use Rattle.std.proofs.Common.{◌≡◌}
use Rattle.futures.specs.LinkedLists.{key_limit}
use Rattle.transfer_slab.specs.Scheduling.{Wakes}
use Rattle.transfer_slab.proofs.schedule.Schedule.note_all_ready.Given as goal

abbrev pub invariant-loop : goal.invariant-loop
invariant-loop l = record {
  wakes : Wakes l.fn.self.lists l.self.lists;
  limit : key_limit l.self.lists ≡ key_limit l.fn.self.lists;
}
