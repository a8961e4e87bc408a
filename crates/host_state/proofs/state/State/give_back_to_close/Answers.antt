use Rattle.std.proofs.Common.{◌≡◌, ◌≤◌, ℕ, length, Some, None, sym, ap, subst, ◌∙◌, arith}
use Rattle.std.specs.Prelude.{◌==◌, if◌then◌else◌}
use Rattle.conn_log.specs.declared.entry.Cause.TheVariants.{CacheFull}
use Rattle.conn_log.specs.declared.entry.Event.TheVariants.{Returned, Closed}
use Rattle.conn_log.specs.Connections.{last_moment, open_connections, idle_connections, held_number}
use Rattle.conn_log.specs.Legal.{limit_in_force}
use Rattle.conn_log.specs.Sound.{held_facts}
use Rattle.conn_log.proofs.Steps.{gone_ended}
use Rattle.host_state.specs.Steps.{add}
use Rattle.host_state.specs.Idle.{streams_of}
use Rattle.host_state.specs.State.{HostState, ComesBackUnkept, facts_of_held}
use Rattle.host_state.proofs.Replaying.{table_from_log}
use Rattle.host_state.proofs.Transitions.{replays_unkept, has_gone}
use Rattle.host_state.proofs.state.State.give_back_to_close.Goals as goal

pub invariant_of-self : goal.invariant_of-self
invariant_of-self g c =
    let kept = c.self.invariant.replays in
    let room = c.self.invariant.room in
    let stays = c.requires.stays in
    let log_is = ap (λ (v : HostState g.row.S.Denot). v.log) c.self.view_is in
    let there = table_from_log kept c.args.transfer stays.held (subst (λ log. held_facts log c.args.transfer ≡ Some (facts_of_held stays.held)) (sym log_is) stays.was_held) in
    let later = subst (λ log. last_moment log ≤ c.args.moment) (sym log_is) c.requires.later in
    record {
      replays = rw (c.append.ensures.entries, c.append_return.ensures.entries, ← stays.number) (replays_unkept _ _ _ _ _ _ kept c.args.transfer stays.held there c.args.moment later c.args.facts stays.stays _ _ c.take_out.ensures.taken c.take_out.ensures.len);
      limit = rw (c.append.ensures.entries, c.append_return.ensures.entries) c.self.invariant.limit;
      queue = rw (c.append.ensures.entries, c.append_return.ensures.entries) c.self.invariant.queue;
      numbers = c.self.invariant.numbers;
      room = record {
        log_room = omega (arith, room.log_room, c.append_return.ensures.room, c.append.ensures.room, c.take_out.ensures.len);
        idle_room = omega (arith, room.idle_room, c.take_out.ensures.len);
        held_room = omega (arith, room.held_room, c.take_out.ensures.room);
        queue_room = room.queue_room;
      };
    }

pub returns : goal.returns
returns g c =
    let kept = c.self.invariant.replays in
    let state = c.self.inside in
    let stays = c.requires.stays in
    let n = stays.held.number in
    let log_is = ap (λ (v : HostState g.row.S.Denot). v.log) c.self.view_is in
    let there = table_from_log kept c.args.transfer stays.held (subst (λ log. held_facts log c.args.transfer ≡ Some (facts_of_held stays.held)) (sym log_is) stays.was_held) in
    let gone = has_gone _ _ _ _ _ _ kept c.args.transfer stays.held there _ (gone_ended c.args.moment n c.args.facts CacheFull state.log.entries) in
    let ended = add c.args.moment (Closed n CacheFull) (add c.args.moment (Returned n c.args.facts) state.log.entries) in
    let new : HostState g.row.S.Denot = record { log = ended; cut_away = state.log.cut_away; settings = record { limit = state.host_limit; first = state.first }; host = state.host; streams = streams_of state.idle.items; booked = state.booked; has_limit_room = state.has_limit_room } in
    let told : ComesBackUnkept c.args.self.now new c.args.transfer n c.args.facts c.args.moment = record {
      log = ap (λ log. add c.args.moment (Closed n CacheFull) (add c.args.moment (Returned n c.args.facts) log)) log_is;
      closed = gone.closed;
      holders = λ t. gone.holders t ∙ ap (λ log. if c.args.transfer == t then None else held_number log t) log_is;
      streams = ap (λ (v : HostState g.row.S.Denot). v.streams) c.self.view_is;
      fewer_open = ap (λ log. length (open_connections log)) (sym log_is) ∙ gone.fewer_open;
      as_many_idle = gone.as_many_idle ∙ ap (λ log. length (idle_connections log)) log_is;
      limit = gone.limit ∙ ap (λ (v : HostState g.row.S.Denot). limit_in_force v.settings v.log) c.self.view_is;
      booked = ap (λ (v : HostState g.row.S.Denot). v.booked) c.self.view_is;
      same = record { settings = ap (λ (v : HostState g.row.S.Denot). v.settings) c.self.view_is; host = ap (λ (v : HostState g.row.S.Denot). v.host) c.self.view_is; cut_away = ap (λ (v : HostState g.row.S.Denot). v.cut_away) c.self.view_is };
    } in
    rw (c.append.ensures.entries, c.append_return.ensures.entries, c.append.ensures.cut_away, c.append_return.ensures.cut_away) (subst (λ (m : ℕ). ComesBackUnkept c.args.self.now (record new { log = add c.args.moment (Closed m CacheFull) (add c.args.moment (Returned m c.args.facts) state.log.entries) }) c.args.transfer m c.args.facts c.args.moment) stays.number told)
