use Rattle.std.proofs.Common.{◌≤◌, ◌<◌, length, sym, ap, subst, arith}
use Rattle.std.specs.List.{remove}
use Rattle.conn_log.specs.Connections.{last_moment, idle_connections}
use Rattle.conn_log.specs.declared.entry.Event.TheVariants.{Closed}
use Rattle.host_state.specs.Steps.{add}
use Rattle.host_state.specs.Idle.{streams_of}
use Rattle.host_state.specs.State.{HostState, ClosesFirst}
use Rattle.host_state.proofs.Transitions.{replays_close, closes_first}
use Rattle.host_state.proofs.state.State.close_oldest.Goals as goal

pub take_from-oldest-requires : goal.take_from-oldest-requires
take_from-oldest-requires g c =
    let kept = c.self.invariant.replays in
    let log_is = ap (λ (v : HostState g.row.S.Denot). v.log) c.self.view_is in
    let some : 0 < length c.self.inside.idle.items = rw kept.idle_len (subst (λ log. 0 < length (idle_connections log)) (sym log_is) c.requires.some) in
    omega (arith, some)

pub invariant_of-self : goal.invariant_of-self
invariant_of-self g c =
    let kept = c.self.invariant.replays in
    let log_is = ap (λ (v : HostState g.row.S.Denot). v.log) c.self.view_is in
    let some : 0 < length c.self.inside.idle.items = rw kept.idle_len (subst (λ log. 0 < length (idle_connections log)) (sym log_is) c.requires.some) in
    let room = c.self.invariant.room in
    let later = subst (λ log. last_moment log ≤ c.args.moment) (sym log_is) c.requires.later in
    record {
      replays = rw (c.append.ensures.entries, c.take_from-oldest.ensures.items) (replays_close _ _ _ _ _ _ kept c.args.moment later c.args.cause 0 c.take_from-oldest.result some c.take_from-oldest.ensures.value c.requires.cause);
      limit = rw c.append.ensures.entries c.self.invariant.limit;
      queue = rw c.append.ensures.entries c.self.invariant.queue;
      numbers = c.self.invariant.numbers;
      room = record {
        log_room = omega (arith, room.log_room, c.append.ensures.room, c.take_from-oldest.ensures.len);
        idle_room = omega (arith, room.idle_room, c.take_from-oldest.ensures.len, c.take_from-oldest.ensures.capacity);
        held_room = room.held_room;
        queue_room = room.queue_room;
      };
    }

pub returns : goal.returns
returns g c =
    let kept = c.self.invariant.replays in
    let log_is = ap (λ (v : HostState g.row.S.Denot). v.log) c.self.view_is in
    let some : 0 < length c.self.inside.idle.items = rw kept.idle_len (subst (λ log. 0 < length (idle_connections log)) (sym log_is) c.requires.some) in
    let x = c.take_from-oldest.result in
    let state = c.self.inside in
    let new : HostState g.row.S.Denot = record { log = add c.args.moment (Closed x.number c.args.cause) state.log.entries; cut_away = state.log.cut_away; settings = record { limit = state.host_limit; first = state.first }; host = state.host; streams = streams_of (remove state.idle.items 0); booked = state.booked; has_limit_room = state.has_limit_room } in
    rw (c.append.ensures.entries, c.append.ensures.cut_away, c.take_from-oldest.ensures.items) (subst (λ (v : HostState g.row.S.Denot). ClosesFirst c.args.cause c.args.moment v new) c.self.view_is (closes_first _ _ _ _ _ _ kept c.args.cause c.args.moment x state.host state.booked state.log.cut_away state.has_limit_room some c.take_from-oldest.ensures.value))
