use Rattle.std.proofs.Common.{length}
use Rattle.held_pool.specs.Due.{AreDue}
use Rattle.held_pool.proofs.EndedDue.{EndsRest}
use Rattle.held_pool.proofs.closing.end_all.Given as goal

abbrev pub invariant-loop-held : goal.invariant-loop-held
invariant-loop-held l = record {
  due : AreDue l.pool l.slots.places.items;
  ended : EndsRest l.fn.pool l.pool l.now l.fn.slots.places.items l.slots.places.items;
}

abbrev pub decreases-loop-held : goal.decreases-loop-held
decreases-loop-held l = length l.slots.places.items
