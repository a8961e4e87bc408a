use Rattle.std.proofs.Common.{◌≡◌, ◌+◌, ◌≤◌, ℕ, length, true, false, None, Some, sym, ap, subst, ◌∙◌, arith}
use Rattle.std.specs.Prelude.{◌==◌, if◌then◌else◌}
use Rattle.std.specs.Option.{option_map}
use Rattle.std.proofs.lemmas.Bool.Decides.{nat_tests}
use Rattle.conn_log.specs.declared.entry.Event.TheVariants.{Returned, Closed}
use Rattle.conn_log.specs.Connections.{last_moment, held_number, is_held_by, open_connections, idle_connections}
use Rattle.conn_log.specs.Sound.{held_facts}
use Rattle.conn_log.proofs.Holdings.{number_returned}
use Rattle.conn_log.proofs.Steps.{taken_end, gone_ended}
use Rattle.conn_log.specs.Legal.{limit_in_force}
use Rattle.host_state.specs.declared.idle.Idle.{Idle}
use Rattle.host_state.specs.Steps.{add}
use Rattle.host_state.specs.Idle.{stream_of, streams_of}
use Rattle.host_state.specs.State.{HostState, EndsUse, ComesBackToClose, stays_open, facts_of_held}
use Rattle.host_state.proofs.Kept.{stream_of-insert}
use Rattle.host_state.proofs.Replaying.{table_strange, table_held, table_number, would_stay_held}
use Rattle.host_state.proofs.Transitions.{replays_return, replays_end, none_owed, held_not_found, ends_use_at_once, has_gone, more_idle_back}
use Rattle.host_state.proofs.state.State.give_back.Goals as goal

pub returns-in_default-clause-strange : goal.returns-in_default-clause-strange
returns-in_default-clause-strange g c =
    rw (← c.self-2.view_is) (table_strange c.self-2.invariant.replays c.args.transfer c.args.number c.in_default.ensures.strange)

pub invariant_of-self-then-not-stays_open : goal.invariant_of-self-then-not-stays_open
invariant_of-self-then-not-stays_open g c =
    let kept = c.self-2.invariant.replays in
    let room = c.self-2.invariant.room in
    let held = c.in-Some.held in
    let log_is = ap (λ (v : HostState g.row.S.Denot). v.log) c.self-2.view_is in
    let later = subst (λ log. last_moment log ≤ c.args.moment) (sym log_is) c.requires in
    let ends : stays_open c.args.facts held ≡ false = sym (c.stays_open.ensures c.args.facts (sym c.persists-persists.ensures)) ∙ grind (arith, c.if-not-stays_open.true) in
    record {
      replays = rw (c.append.ensures.entries, c.append_return.ensures.entries) (replays_end _ _ _ _ _ _ kept c.args.transfer held c.in-Some.ensures.there c.args.moment later c.args.facts _ ends c.ending_cause.ensures _ _ c.in-Some.ensures.taken c.in-Some.ensures.len);
      limit = rw (c.append.ensures.entries, c.append_return.ensures.entries) c.self-2.invariant.limit;
      queue = rw (c.append.ensures.entries, c.append_return.ensures.entries) c.self-2.invariant.queue;
      numbers = c.self-2.invariant.numbers;
      room = record {
        log_room = omega (arith, room.log_room, c.append_return.ensures.room, c.append.ensures.room, c.in-Some.ensures.len);
        idle_room = omega (arith, room.idle_room, c.in-Some.ensures.len);
        held_room = omega (arith, c.take_out_number.ensures.room (omega (arith, room.held_room, c.len.ensures)), c.len.ensures);
        queue_room = room.queue_room;
      };
    }

pub returns-then-not-stays_open-clause-known : goal.returns-then-not-stays_open-clause-known
returns-then-not-stays_open-clause-known g c =
    let told = table_held c.self-2.invariant.replays c.args.transfer c.in-Some.held c.in-Some.ensures.there in
    rw (← c.self-2.view_is) (ap (is_held_by c.self-2.inside.log.entries c.args.transfer) (sym c.in-Some.ensures.number) ∙ told)

pub returns-then-not-stays_open-clause-closed : goal.returns-then-not-stays_open-clause-closed
returns-then-not-stays_open-clause-closed g c =
    let kept = c.self-2.invariant.replays in
    let state = c.self-2.inside in
    let held = c.in-Some.held in
    let n = held.number in
    let log_is = ap (λ (v : HostState g.row.S.Denot). v.log) c.self-2.view_is in
    let later = subst (λ log. last_moment log ≤ c.args.moment) (sym log_is) c.requires in
    let ends : stays_open c.args.facts held ≡ false = sym (c.stays_open.ensures c.args.facts (sym c.persists-persists.ensures)) ∙ grind (arith, c.if-not-stays_open.true) in
    let cause = c.ending_cause.result in
    let gone = has_gone _ _ _ _ _ _ kept c.args.transfer held c.in-Some.ensures.there _ (gone_ended c.args.moment n c.args.facts cause state.log.entries) in
    let was = table_number kept c.args.transfer held c.in-Some.ensures.there in
    let now = ends_use_at_once _ _ _ _ _ _ kept c.args.transfer held c.in-Some.ensures.there c.args.moment later c.args.facts _ ends c.ending_cause.ensures in
    let ended = add c.args.moment (Closed n cause) (add c.args.moment (Returned n c.args.facts) state.log.entries) in
    let new : HostState g.row.S.Denot = record { log = ended; cut_away = state.log.cut_away; settings = record { limit = state.host_limit; first = state.first }; host = state.host; streams = streams_of state.idle.items; booked = state.booked; has_limit_room = state.has_limit_room } in
    let told : ComesBackToClose c.args.self.now new c.args.transfer n c.args.facts c.args.moment = record {
      was_held = ap (λ log. held_number log c.args.transfer) (sym log_is) ∙ was;
      ends = subst (λ log. EndsUse log ended n c.args.facts c.args.moment) log_is now;
      closed = gone.closed;
      holders = λ t. gone.holders t ∙ ap (λ log. if c.args.transfer == t then None else held_number log t) log_is;
      streams = ap (λ (v : HostState g.row.S.Denot). v.streams) c.self-2.view_is;
      fewer_open = ap (λ log. length (open_connections log)) (sym log_is) ∙ gone.fewer_open;
      as_many_idle = gone.as_many_idle ∙ ap (λ log. length (idle_connections log)) log_is;
      limit = gone.limit ∙ ap (λ (v : HostState g.row.S.Denot). limit_in_force v.settings v.log) c.self-2.view_is;
      booked = ap (λ (v : HostState g.row.S.Denot). v.booked) c.self-2.view_is;
      same = record { settings = ap (λ (v : HostState g.row.S.Denot). v.settings) c.self-2.view_is; host = ap (λ (v : HostState g.row.S.Denot). v.host) c.self-2.view_is; cut_away = ap (λ (v : HostState g.row.S.Denot). v.cut_away) c.self-2.view_is };
    } in
    rw (c.append.ensures.entries, c.append_return.ensures.entries, c.append.ensures.cut_away, c.append_return.ensures.cut_away) (subst (λ (m : ℕ). ComesBackToClose c.args.self.now new c.args.transfer m c.args.facts c.args.moment) c.in-Some.ensures.number told)

pub invariant_of-self-2 : goal.invariant_of-self-2
invariant_of-self-2 g c =
    let kept = c.self-2.invariant.replays in
    let room = c.self-2.invariant.room in
    let held = c.in-Some.held in
    let log_is = ap (λ (v : HostState g.row.S.Denot). v.log) c.self-2.view_is in
    let later = subst (λ log. last_moment log ≤ c.args.moment) (sym log_is) c.requires in
    let stays : stays_open c.args.facts held ≡ true = sym (c.stays_open.ensures c.args.facts (sym c.persists-persists.ensures)) ∙ grind (arith, c.if-not-stays_open.false) in
    record {
      replays = rw (c.append_return.ensures.entries, c.put_in.ensures.items, c.idle_since.ensures) (replays_return _ _ _ _ _ _ kept c.args.transfer held c.in-Some.ensures.there c.args.moment later c.args.facts stays c.place_for-place.result c.args.stream c.place_for-place.ensures _ _ c.in-Some.ensures.taken c.in-Some.ensures.len);
      limit = rw c.append_return.ensures.entries c.self-2.invariant.limit;
      queue = rw c.append_return.ensures.entries c.self-2.invariant.queue;
      numbers = c.self-2.invariant.numbers;
      room = record {
        log_room = omega (arith, room.log_room, c.append_return.ensures.room, c.in-Some.ensures.len, c.put_in.ensures.len);
        idle_room = omega (arith, room.idle_room, c.in-Some.ensures.len, c.put_in.ensures.len, c.put_in.ensures.capacity);
        held_room = omega (arith, c.take_out_number.ensures.room (omega (arith, room.held_room, c.len.ensures)), c.len.ensures);
        queue_room = room.queue_room;
      };
    }

pub returns-clause-known : goal.returns-clause-known
returns-clause-known g c =
    let told = table_held c.self-2.invariant.replays c.args.transfer c.in-Some.held c.in-Some.ensures.there in
    rw (← c.self-2.view_is) (ap (is_held_by c.self-2.inside.log.entries c.args.transfer) (sym c.in-Some.ensures.number) ∙ told)

pub returns-clause-idle : goal.returns-clause-idle
returns-clause-idle g c =
    let kept = c.self-2.invariant.replays in
    let held = c.in-Some.held in
    let n = held.number in
    let there = c.in-Some.ensures.there in
    let log_is = ap (λ (v : HostState g.row.S.Denot). v.log) c.self-2.view_is in
    let later = subst (λ log. last_moment log ≤ c.args.moment) (sym log_is) c.requires in
    let stays : stays_open c.args.facts held ≡ true = sym (c.stays_open.ensures c.args.facts (sym c.persists-persists.ensures)) ∙ grind (arith, c.if-not-stays_open.false) in
    let x : Idle g.row.S.Denot = record { number = n; lane = held.lane; born = held.born; since = c.args.moment; stream = c.args.stream } in
    let absent = held_not_found _ _ _ _ _ _ kept c.args.transfer held there in
    let it : (n == n) ≡ true = grind (arith, nat_tests) in
    let at_it = stream_of-insert c.self-2.inside.idle.items c.place_for-place.result x n absent in
    record {
      was_held = ap (λ log. held_facts log c.args.transfer) (sym log_is) ∙ sym (kept.held_at c.args.transfer) ∙ ap (option_map facts_of_held) there;
      stays = stays;
      log = c.append_return.ensures.entries ∙ ap (λ log. add c.args.moment (Returned n c.args.facts) log) log_is;
      settled = rw c.append_return.ensures.entries (none_owed _ _ _ _ _ _ kept c.args.transfer held there c.args.moment later c.args.facts stays);
      holders = λ t. ap (λ log. held_number log t) c.append_return.ensures.entries ∙ number_returned c.args.moment n c.args.facts c.self-2.inside.log.entries t kept.sound.orderly.transfers_once ∙ taken_end _ _ kept.sound.orderly n c.args.transfer (table_number kept c.args.transfer held there) t ∙ ap (λ log. if c.args.transfer == t then None else held_number log t) log_is;
      kept = rw (c.put_in.ensures.items, c.idle_since.ensures) (at_it ∙ ap (λ b. if b then Some c.args.stream else stream_of (streams_of c.self-2.inside.idle.items) n) it);
      others = λ d other. rw (c.put_in.ensures.items, c.idle_since.ensures) (stream_of-insert c.self-2.inside.idle.items c.place_for-place.result x d absent ∙ ap (λ b. if b then Some c.args.stream else stream_of (streams_of c.self-2.inside.idle.items) d) other ∙ ap (λ (v : HostState g.row.S.Denot). stream_of v.streams d) c.self-2.view_is);
      as_many_open = ap (λ log. length (open_connections log)) (c.append_return.ensures.entries ∙ ap (λ log. add c.args.moment (Returned n c.args.facts) log) log_is);
      more_idle = ap (λ log. length (idle_connections log)) c.append_return.ensures.entries ∙ more_idle_back _ _ _ _ _ _ kept c.args.transfer held there c.args.moment c.args.facts stays ∙ ap (λ log. length (idle_connections log) + 1) log_is;
      limit = ap (limit_in_force (record { limit = c.self-2.inside.host_limit; first = c.self-2.inside.first })) c.append_return.ensures.entries ∙ ap (λ (v : HostState g.row.S.Denot). limit_in_force v.settings v.log) c.self-2.view_is;
      booked = ap (λ (v : HostState g.row.S.Denot). v.booked) c.self-2.view_is;
      same = record { settings = ap (λ (v : HostState g.row.S.Denot). v.settings) c.self-2.view_is; host = ap (λ (v : HostState g.row.S.Denot). v.host) c.self-2.view_is; cut_away = c.append_return.ensures.cut_away ∙ ap (λ (v : HostState g.row.S.Denot). v.cut_away) c.self-2.view_is };
    }

pub returns-then-would_stay-clause-known : goal.returns-then-would_stay-clause-known
returns-then-would_stay-clause-known g c =
    let stays = c.would_stay.ensures.yes c.args.facts (sym c.persists-persists.ensures) c.if-would_stay.true in
    let log_is = ap (λ (v : HostState g.row.S.Denot). v.log) c.self.view_is in
    let shown = ap (λ log. held_facts log c.args.transfer) log_is ∙ stays.was_held in
    ap (λ log. is_held_by log c.args.transfer c.args.number) (sym log_is) ∙ would_stay_held c.self.invariant.replays c.args.transfer c.args.number stays.held shown stays.number
