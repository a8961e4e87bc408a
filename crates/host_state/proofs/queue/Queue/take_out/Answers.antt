use Rattle.std.proofs.Common.{rules, ◌≡◌, ap, ◌∙◌, arith}
use Rattle.std.proofs.lemmas.Fn.{filter_same}
use Rattle.conn_log.specs.Waiting.{without}
use Rattle.conn_log.proofs.Queues.{once_without}
use Rattle.host_state.specs.Queue.{Waiters}
use Rattle.host_state.proofs.Waits.{table_without}
use Rattle.host_state.proofs.queue.Queue.take_out.Goals as goal

pub invariant_of-self : goal.invariant_of-self
invariant_of-self c =
    let wants = c.self.inside.order.items in
    let left : c.retain.new.self.items ≡ without c.args.transfer wants = filter_same _ _ _ (λ x b f' k. search rules) _ _ c.retain.ensures.filtered in
    record {
      once = rw left (once_without c.args.transfer wants c.self.invariant.once);
      table = rw left (table_without c.args.transfer wants _ _ c.self.invariant.table c.remove.ensures.updates.0);
      order_room = omega (arith, c.self.invariant.order_room, c.retain.ensures.bound, c.retain.ensures.capacity);
      table_room = omega (arith, c.self.invariant.table_room, c.remove.ensures.spare);
    }

pub returns-clause-wants : goal.returns-clause-wants
returns-clause-wants c =
    let wants = c.self.inside.order.items in
    let left : c.retain.new.self.items ≡ without c.args.transfer wants = filter_same _ _ _ (λ x b f' k. search rules) _ _ c.retain.ensures.filtered in
    left ∙ ap (λ (v : Waiters). without c.args.transfer v.wants) c.self.view_is
