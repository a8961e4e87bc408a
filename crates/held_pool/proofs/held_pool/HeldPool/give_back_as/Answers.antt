-- What the slot held was spent.
use Rattle.bundle.specs.declared.answers.Acquired.TheVariants.{Lease}
use Rattle.held_pool.proofs.DueCalls.{spent_one, spent_due}
use Rattle.held_pool.proofs.held_pool.HeldPool.give_back_as.Goals as goal

pub invariant_of-self-2 : goal.invariant_of-self-2
invariant_of-self-2 c =
    let pool = c.self.inside.pool in
    let lease = c.in_ok-lease.lease in
    let done = c.give_back_to.ensures in
    spent_due pool c.give_back_to.new.pool c.self.inside.slots.places.items c.take_attached.new.slots.places.items c.args.slot (Lease lease) c.self.invariant c.in_ok-lease.ensures.ok
    (spent_one pool c.give_back_to.new.pool lease.site lease.start.want.transfer done.at_site done.spends)
