use Rattle.std.proofs.Common.{◌≡◌, None, ap, ◌∙◌, arith}
use Rattle.conn_log.proofs.Queues.{once_last}
use Rattle.host_state.specs.Queue.{waiting_want, Waiters}
use Rattle.host_state.proofs.Waits.{waits_not, table_last, ok_told}
use Rattle.host_state.proofs.queue.Queue.push.Goals as goal

pub invariant_of-self : goal.invariant_of-self
invariant_of-self c =
    let wants = c.self.inside.order.items in
    let new : waiting_want wants c.args.want.transfer ≡ None = ap (λ (v : Waiters). waiting_want v.wants c.args.want.transfer) c.self.view_is ∙ c.requires.new in
    record {
      once = rw c.push_back_reserved.ensures.items (once_last c.args.want wants c.self.invariant.once (waits_not c.args.want.transfer wants new));
      table = rw c.push_back_reserved.ensures.items (table_last c.args.want wants _ _ new c.self.invariant.table (ok_told _ _ c.unwrap.ensures c.insert-earlier.ensures.updates).0);
      order_room = omega (arith, c.self.invariant.order_room, c.push_back_reserved.ensures.len, c.push_back_reserved.ensures.capacity);
      table_room = omega (arith, c.self.invariant.table_room, c.insert-earlier.ensures.spare);
    }
