use Rattle.std.proofs.Common.{◌≡◌, ◌≤◌, true, length, refl, sym, ap, subst, ◌∙◌, arith}
use Rattle.std.specs.List.{remove}
use Rattle.conn_log.specs.Connections.{last_moment, open_connections}
use Rattle.conn_log.specs.declared.entry.Event.TheVariants.{Closed}
use Rattle.conn_log.specs.Sound.{is_of_idle}
use Rattle.host_state.specs.Steps.{add, cause_of, picked}
use Rattle.host_state.specs.Idle.{numbers, streams_of, picked_items, PicksFirst}
use Rattle.host_state.specs.State.{HostState, ClosesNext}
use Rattle.host_state.proofs.Replaying.{picked_read}
use Rattle.host_state.proofs.Transitions.{replays_close, closes_next, of_idle}
use Rattle.host_state.proofs.state.State.close_next.Goals as goal

pub returns-in_default-clause-none : goal.returns-in_default-clause-none
returns-in_default-clause-none g c is_false =
    let kept = c.self.invariant.replays in
    let log_is = ap (λ (v : HostState g.row.S.Denot). v.log) c.self.view_is in
    let len : length (open_connections c.self.inside.log.entries) ≡ c.open_len-open_len.result = ap (λ log. length (open_connections log)) log_is ∙ sym c.open_len-open_len.ensures in
    (ap (picked c.args.closing.now c.args.moment) (sym log_is) ∙ picked_read kept c.args.closing.now c.args.moment ∙ ap (λ n. numbers (picked_items c.args.closing.now c.args.moment n c.self.inside.idle.items)) len ∙ ap numbers c.in_default.ensures.none, refl)

pub invariant_of-self : goal.invariant_of-self
invariant_of-self g c =
    let kept = c.self.invariant.replays in
    let log_is = ap (λ (v : HostState g.row.S.Denot). v.log) c.self.view_is in
    let first = c.in-Some.ensures.found in
    let room = c.self.invariant.room in
    let later = subst (λ log. last_moment log ≤ c.args.moment) (sym log_is) c.requires in
    let fits : is_of_idle c.cause_of.result ≡ true = ap is_of_idle c.cause_of.ensures ∙ of_idle c.args.closing.now in
    record {
      replays = rw (c.append.ensures.entries, c.take_from-picked.ensures.items) (replays_close _ _ _ _ _ _ kept c.args.moment later c.cause_of.result c.in-Some.place c.take_from-picked.result first.in_range c.take_from-picked.ensures.value fits);
      limit = rw c.append.ensures.entries c.self.invariant.limit;
      queue = rw c.append.ensures.entries c.self.invariant.queue;
      numbers = c.self.invariant.numbers;
      room = record {
        log_room = omega (arith, room.log_room, c.append.ensures.room, c.take_from-picked.ensures.len);
        idle_room = omega (arith, room.idle_room, c.take_from-picked.ensures.len, c.take_from-picked.ensures.capacity);
        held_room = room.held_room;
        queue_room = room.queue_room;
      };
    }

pub returns-clause-some : goal.returns-clause-some
returns-clause-some g c is_true =
    let kept = c.self.invariant.replays in
    let state = c.self.inside in
    let closing = c.args.closing.now in
    let log_is = ap (λ (v : HostState g.row.S.Denot). v.log) c.self.view_is in
    let later = subst (λ log. last_moment log ≤ c.args.moment) (sym log_is) c.requires in
    let len : length (open_connections state.log.entries) ≡ c.open_len-open_len.result = ap (λ log. length (open_connections log)) log_is ∙ sym c.open_len-open_len.ensures in
    let first = subst (λ n. PicksFirst closing c.args.moment n state.idle.items c.in-Some.place) (sym len) c.in-Some.ensures.found in
    let x = c.take_from-picked.result in
    let new : HostState g.row.S.Denot = record { log = add c.args.moment (Closed x.number (cause_of closing)) state.log.entries; cut_away = state.log.cut_away; settings = record { limit = state.host_limit; first = state.first }; host = state.host; streams = streams_of (remove state.idle.items c.in-Some.place); booked = state.booked; has_limit_room = state.has_limit_room } in
    rw (c.append.ensures.entries, c.append.ensures.cut_away, c.take_from-picked.ensures.items, c.cause_of.ensures) (subst (λ (v : HostState g.row.S.Denot). ClosesNext closing c.args.moment v new) c.self.view_is (closes_next _ _ _ _ _ _ kept closing c.args.moment c.in-Some.place x state.host state.booked state.log.cut_away state.has_limit_room later first c.take_from-picked.ensures.value))
