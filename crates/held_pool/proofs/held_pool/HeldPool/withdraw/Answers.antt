-- What the slot held was spent.
use Rattle.bundle.specs.declared.answers.Acquired.TheVariants.{Wait}
use Rattle.held_pool.proofs.DueCalls.{spent_one, spent_due}
use Rattle.held_pool.proofs.held_pool.HeldPool.withdraw.Goals as goal

pub invariant_of-self-2 : goal.invariant_of-self-2
invariant_of-self-2 c =
    let pool = c.self.inside.pool in
    let ticket = c.in_ok-ticket.ticket in
    let done = c.withdraw_from.ensures in
    spent_due pool c.withdraw_from.new.pool c.self.inside.slots.places.items c.take_ticket.new.slots.places.items c.args.slot (Wait ticket) c.self.invariant c.in_ok-ticket.ensures.ok
    (spent_one pool c.withdraw_from.new.pool ticket.site ticket.wait.want.transfer done.at_site done.spends)
