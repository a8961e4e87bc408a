-- Places that were parked are due.
use Rattle.std.proofs.Common.{sym, subst, ℕ, ◌≤◌}
use Rattle.transfer_slab.proofs.Scheduling.{law_of_wakes}
use Rattle.transfer_slab.proofs.slab.Slab.note_ready.Goals as goal

pub invariant_of-self-inside : goal.invariant_of-self-inside
invariant_of-self-inside g c = (
  c.loop.self-inside.counted,
  (
    law_of_wakes c.loop.self-inside.slots.items c.loop.self-inside.schedule.lists c.note_ready.new.self.lists c.loop.self-inside.scheduled c.note_ready.ensures.wakes,
    (c.loop.self-inside.roomy, (subst (λ (n : ℕ). c.loop.self-inside.room ≤ n) (sym c.note_ready.ensures.limit) c.loop.self-inside.listed, tt)),
  ),
)

pub invariant_of-self-inside-in-All : goal.invariant_of-self-inside-in-All
invariant_of-self-inside-in-All g c = (
  c.loop.self-inside.counted,
  (
    law_of_wakes c.loop.self-inside.slots.items c.loop.self-inside.schedule.lists c.note_all_ready.new.self.lists c.loop.self-inside.scheduled c.note_all_ready.ensures.wakes,
    (c.loop.self-inside.roomy, (subst (λ (n : ℕ). c.loop.self-inside.room ≤ n) (sym c.note_all_ready.ensures.limit) c.loop.self-inside.listed, tt)),
  ),
)
