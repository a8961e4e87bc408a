-- If no place is due, each transfer waits.
use Rattle.transfer_slab.proofs.Scheduling.{idle_unless_due}
use Rattle.transfer_slab.proofs.slab.Slab.has_due.Goals as goal

pub returns : goal.returns
returns g c = rw (← c.self.view_is) (idle_unless_due c.self.inside.slots.items c.self.inside.schedule.lists c.self.inside.scheduled c.has_due.result c.has_due.ensures)
