use Rattle.std.proofs.Common.{◌≡◌, ◌<◌, ◌≤◌, ◌+◌, false, None, [], ◌∷◌, ◌++◌, length, sym, ap, subst, ◌∙◌, arith}
use Rattle.conn_log.specs.Connections.{last_moment, held_number, idle_connections, open_connections}
use Rattle.conn_log.specs.Waiting.{waits, waiting}
use Rattle.conn_log.proofs.Queues.{is_waiting, length_last}
use Rattle.host_state.specs.State.{HostState}
use Rattle.host_state.proofs.Waits.{no_want}
use Rattle.host_state.proofs.Transitions.{replays_wait}
use Rattle.host_state.proofs.state.State.wait.Goals as goal

pub push-requires-clause-new : goal.push-requires-clause-new
push-requires-clause-new g c =
    let is = c.self.invariant.queue ∙ ap (λ (v : HostState g.row.S.Denot). waiting v.log) c.self.view_is in
    no_want c.args.want.transfer c.self.inside.queue.wants (ap (λ wants. is_waiting wants c.args.want.transfer) is ∙ c.requires.once)

pub invariant_of-self : goal.invariant_of-self
invariant_of-self g c =
    let kept = c.self.invariant.replays in
    let log_is = ap (λ (v : HostState g.row.S.Denot). v.log) c.self.view_is in
    let booked = subst (λ (v : HostState g.row.S.Denot). 0 < v.booked) (sym c.self.view_is) c.requires.booked in
    let room = c.self.invariant.room in
    let later = subst (λ log. last_moment log ≤ c.args.moment) (sym log_is) c.requires.later in
    let free = subst (λ log. held_number log c.args.want.transfer ≡ None) (sym log_is) c.requires.free in
    let new = subst (λ log. waits log c.args.want.transfer ≡ false) (sym log_is) c.requires.once in
    let none_idle = subst (λ log. idle_connections log ≡ []) (sym log_is) c.requires.none_idle in
    let len : length c.push.new.self.wants ≡ length c.self.inside.queue.wants + 1 = ap length c.push.ensures.wants ∙ length_last c.args.want c.self.inside.queue.wants in
    record {
      replays = rw c.append.ensures.entries (replays_wait _ _ _ _ _ _ kept c.args.moment later c.args.want free new none_idle);
      limit = rw c.append.ensures.entries c.self.invariant.limit;
      queue = rw c.append.ensures.entries (c.push.ensures.wants ∙ ap (λ wants. wants ++ c.args.want ∷ []) c.self.invariant.queue);
      numbers = omega (arith, c.self.invariant.numbers, len, booked);
      room = record {
        log_room = omega (arith, room.log_room, c.append.ensures.room, len, booked);
        idle_room = omega (arith, room.idle_room, len, booked);
        held_room = omega (arith, room.held_room, len, booked);
        queue_room = omega (arith, room.queue_room, c.push.ensures.room, booked);
      };
    }

pub returns-clause-as_many_open : goal.returns-clause-as_many_open
returns-clause-as_many_open g c =
    ap (λ log. length (open_connections log)) c.append.ensures.entries ∙ ap (λ (v : HostState g.row.S.Denot). length (open_connections v.log)) c.self.view_is

pub returns-clause-as_many_idle : goal.returns-clause-as_many_idle
returns-clause-as_many_idle g c =
    ap (λ log. length (idle_connections log)) c.append.ensures.entries ∙ ap (λ (v : HostState g.row.S.Denot). length (idle_connections v.log)) c.self.view_is
