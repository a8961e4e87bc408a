use Rattle.std.proofs.Common.{◌≡◌, ◌≤◌, ◌+◌, true, length, sym, ap, subst, ◌∙◌, arith}
use Rattle.conn_log.specs.Connections.{last_moment, open_connections, idle_connections}
use Rattle.conn_log.specs.Waiting.{without, waits}
use Rattle.conn_log.proofs.Queues.{length_without}
use Rattle.host_state.specs.State.{HostState}
use Rattle.host_state.proofs.Transitions.{replays_leave}
use Rattle.host_state.proofs.state.State.leave.Goals as goal

pub invariant_of-self : goal.invariant_of-self
invariant_of-self g c =
    let kept = c.self.invariant.replays in
    let log_is = ap (λ (v : HostState g.row.S.Denot). v.log) c.self.view_is in
    let room = c.self.invariant.room in
    let queue = c.self.invariant.queue in
    let later = subst (λ log. last_moment log ≤ c.args.moment) (sym log_is) c.requires.later in
    let there : waits c.self.inside.log.entries c.args.transfer ≡ true = ap (λ log. waits log c.args.transfer) log_is ∙ c.requires.waits in
    let left : c.take_out.new.self.wants ≡ without c.args.transfer c.self.inside.queue.wants = c.take_out.ensures.wants in
    let fewer = length_without c.args.transfer _ kept.sound.orderly.wait_once there in
    let len : length c.self.inside.queue.wants ≡ length c.take_out.new.self.wants + 1 = ap length queue ∙ fewer ∙ ap (λ wants. length wants + 1) (sym (left ∙ ap (without c.args.transfer) queue)) in
    record {
      replays = rw c.append.ensures.entries (replays_leave _ _ _ _ _ _ kept c.args.moment later c.args.transfer there);
      limit = rw c.append.ensures.entries c.self.invariant.limit;
      queue = rw c.append.ensures.entries (left ∙ ap (without c.args.transfer) queue);
      numbers = omega (arith, c.self.invariant.numbers, len);
      room = record {
        log_room = omega (arith, room.log_room, c.append.ensures.room, len);
        idle_room = omega (arith, room.idle_room, len);
        held_room = omega (arith, room.held_room, len);
        queue_room = omega (arith, room.queue_room, c.take_out.ensures.room);
      };
    }

pub returns-clause-as_many_open : goal.returns-clause-as_many_open
returns-clause-as_many_open g c =
    ap (λ log. length (open_connections log)) c.append.ensures.entries ∙ ap (λ (v : HostState g.row.S.Denot). length (open_connections v.log)) c.self.view_is

pub returns-clause-as_many_idle : goal.returns-clause-as_many_idle
returns-clause-as_many_idle g c =
    ap (λ log. length (idle_connections log)) c.append.ensures.entries ∙ ap (λ (v : HostState g.row.S.Denot). length (idle_connections v.log)) c.self.view_is
