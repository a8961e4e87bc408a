use Rattle.std.proofs.Common.{length, ◌+◌, ◌-◌}
use Rattle.held_pool.specs.Readers.{SameReaders}
use Rattle.held_pool.proofs.slot_readers.SlotReaders.reach.Given as goal

abbrev pub invariant-loop-self : goal.invariant-loop-self
invariant-loop-self l = SameReaders l.fn.self.readers.items l.self.readers.items

abbrev pub decreases-loop-self : goal.decreases-loop-self
decreases-loop-self l = l.index + 1 - length l.self.readers.items
