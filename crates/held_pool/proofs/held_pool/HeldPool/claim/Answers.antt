-- What the slot holds is the same, or what its ticket was claimed for.
use Rattle.std.proofs.Common.{refl}
use Rattle.bundle.specs.declared.answers.Acquired.TheVariants.{Lease, Wait}
use Rattle.held_pool.specs.Slots.{Takes}
use Rattle.held_pool.specs.Due.{holder_of}
use Rattle.held_pool.proofs.DueCalls.{replaced_due, changes_nothing, slot_due, put_back_same}
use Rattle.held_pool.proofs.ClaimedDue.{claimed_change}
use Rattle.held_pool.proofs.held_pool.HeldPool.claim.Goals as goal

pub invariant_of-self-in-Some-Lease : goal.invariant_of-self-in-Some-Lease
invariant_of-self-in-Some-Lease c =
    let pool = c.self.inside.pool in
    let places = c.self.inside.slots.places.items in
    let lease = c.in-Some-Lease.lease in
    let takes : Takes places c.lift.new.self.places.items c.args.slot (Lease lease) = rw c.in-Some-Lease.field-0-is at c.in-Some-Lease.ensures.some in
    replaced_due pool pool places c.lift.new.self.places.items c.put_back.new.self.places.items c.args.slot (Lease lease) (Lease lease)
    c.self.invariant takes (rw c.got_of-got.ensures.same at c.put_back.ensures) (changes_nothing pool (holder_of (Lease lease))) (slot_due pool places c.args.slot (Lease lease) c.self.invariant takes.its) refl

pub invariant_of-self-in-Some-Wait : goal.invariant_of-self-in-Some-Wait
invariant_of-self-in-Some-Wait c =
    let pool = c.self.inside.pool in
    let new = c.claim_from-claimed.new.pool in
    let places = c.self.inside.slots.places.items in
    let ticket = c.in-Some-Wait.ticket in
    let claimed = c.claim_from-claimed.result in
    let takes : Takes places c.lift.new.self.places.items c.args.slot (Wait ticket) = rw c.in-Some-Wait.field-0-is at c.in-Some-Wait.ensures.some in
    let change = claimed_change pool new ticket claimed c.claim_from-claimed.ensures.done in
    replaced_due pool new places c.lift.new.self.places.items c.put_back-in-Some-Wait.new.self.places.items c.args.slot (Wait ticket) claimed
    c.self.invariant takes (rw c.got_of-got-in-Some-Wait.ensures.same at c.put_back-in-Some-Wait.ensures) change.0 c.claim_from-claimed.ensures.due change.1

pub returns-in-Some-Lease-clause-ok : goal.returns-in-Some-Lease-clause-ok
returns-in-Some-Lease-clause-ok c =
    let places = c.self.inside.slots.places.items in
    let lease = c.in-Some-Lease.lease in
    let takes : Takes places c.lift.new.self.places.items c.args.slot (Lease lease) = rw c.in-Some-Lease.field-0-is at c.in-Some-Lease.ensures.some in
    rw (← c.self.view_is, takes.its) ((refl, put_back_same places c.lift.new.self.places.items c.put_back.new.self.places.items c.args.slot (Lease lease) takes (rw c.got_of-got.ensures.same at c.put_back.ensures)), c.got_of-got.ensures.told)
