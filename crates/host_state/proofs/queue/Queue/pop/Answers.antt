use Rattle.std.proofs.Common.{arith}
use Rattle.host_state.proofs.Waits.{once_rest, table_rest}
use Rattle.host_state.proofs.queue.Queue.pop.Goals as goal

pub invariant_of-self : goal.invariant_of-self
invariant_of-self c =
    let wants = c.self.inside.order.items in
    record {
      once = once_rest c.in-Some.want wants _ c.in-Some.ensures.items c.self.invariant.once;
      table = table_rest c.in-Some.want wants _ _ _ c.self.invariant.once c.in-Some.ensures.items c.self.invariant.table c.remove.ensures.updates.0;
      order_room = omega (arith, c.self.invariant.order_room, c.in-Some.ensures.len, c.in-Some.ensures.capacity);
      table_room = omega (arith, c.self.invariant.table_room, c.remove.ensures.spare);
    }
