-- The lease of the slot is the same but for its token.
use Rattle.std.proofs.Common.{refl, Some}
use Rattle.bundle.specs.Lease.{Leasing}
use Rattle.bundle.specs.declared.answers.Acquired.TheVariants.{Lease}
use Rattle.held_pool.specs.Due.{holder_of}
use Rattle.held_pool.proofs.DueCalls.{replaced_due, changes_nothing, slot_due}
use Rattle.held_pool.proofs.held_pool.HeldPool.attach.Goals as goal

pub invariant_of-self : goal.invariant_of-self
invariant_of-self c =
    let pool = c.self.inside.pool in
    let places = c.self.inside.slots.places.items in
    let lease = c.lift_lease-lease.result in
    let next : Leasing _ = record lease { stream = Some c.in-Ok.token } in
    let was = slot_due pool places c.args.slot (Lease lease) c.self.invariant c.lift_lease-lease.ensures.takes.its in
    replaced_due pool pool places c.lift_lease-lease.new.slots.places.items c.put_back.new.self.places.items c.args.slot (Lease lease) (Lease next)
    c.self.invariant c.lift_lease-lease.ensures.takes (rw c.attach.ensures at c.put_back.ensures) (changes_nothing pool (holder_of (Lease lease))) (record { there = was.0.there; tables = was.0.tables }, was.1) refl
