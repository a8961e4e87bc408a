-- No place is there yet.
use Rattle.std.proofs.Common.{refl}
use Rattle.transfer_slab.proofs.Scheduling.{law_of_none}
use Rattle.transfer_slab.proofs.slab.Slab.with_room.Goals as goal

pub invariant_of-result : goal.invariant_of-result
invariant_of-result g c =
    let empty = c.in_ok-slots.ensures.items in
    (rw empty refl, (rw empty (law_of_none c.in_ok-schedule.schedule.lists c.in_ok-schedule.ensures.unlisted), (c.in_ok-slots.ensures.capacity, (c.in_ok-schedule.ensures.reserved, tt))))
