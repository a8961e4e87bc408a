use Rattle.std.proofs.Common.{◌≡◌, [], length}
use Rattle.std.specs.List.{All}
use Rattle.driver.proofs.many.storage.destroy_all.Given as goal

abbrev pub decreases-loop-last : goal.decreases-loop-last
decreases-loop-last g l = length l.loops.items

abbrev pub invariant-loop-last : goal.invariant-loop-last
invariant-loop-last g l = record { empty : All (λ it. it.slab.slots ≡ []) l.loops.items }
