-- Room for more places leaves each place in its list.
use Rattle.std.proofs.Common.{arith}
use Rattle.transfer_slab.proofs.Scheduling.{law_of_same}
use Rattle.transfer_slab.proofs.slab.Slab.grow.Goals as goal

pub invariant_of-self-inside-2 : goal.invariant_of-self-inside-2
invariant_of-self-inside-2 g c =
    let listed = c.self.inside.listed in
    let roomy = c.self.inside.roomy in (
      rw c.reserve.ensures.items c.self.inside.counted,
      (
        rw c.reserve.ensures.items (law_of_same c.self.inside.slots.items c.self.inside.schedule.lists c.add_place.new.self.lists c.self.inside.scheduled c.add_place.ensures.same_lists),
        (omega (arith, roomy, c.reserve.ensures.capacity), (omega (arith, listed, c.add_place.ensures.grows), tt)),
      ),
    )
