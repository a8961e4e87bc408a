use Rattle.std.proofs.Common.{◌≡◌, ◌<◌, ◌≤◌, [], None, refl, sym, ap, subst, ◌∙◌, ◌+◌, length, arith}
use Rattle.std.specs.Prelude.{nat_eq}
use Rattle.std.specs.Option.{option_map}
use Rattle.std.specs.HashMap.{get}
use Rattle.conn_log.specs.Connections.{last_moment, is_open, open_connections, idle_connections}
use Rattle.conn_log.proofs.Steps.{idle_open_unheld}
use Rattle.conn_log.specs.declared.entry.Event.TheVariants.{Leased}
use Rattle.conn_log.specs.Fit.{newest_fit}
use Rattle.host_state.specs.declared.idle.Idle.{Idle}
use Rattle.host_state.specs.Steps.{add}
use Rattle.host_state.specs.Idle.{stream_of}
use Rattle.host_state.specs.State.{HostState, booked_after_start}
use Rattle.host_state.proofs.Kept.{stream_of-streams_of, stream_of-remove}
use Rattle.host_state.proofs.Replaying.{found_idle, at_place, newest_read, newest_read_none}
use Rattle.host_state.proofs.Transitions.{if_none_always, table_absent, read_fit, replays_lease, fewer_idle_leased}
use Rattle.conn_log.specs.Waiting.{waiting}
use Rattle.conn_log.specs.Sound.{IsNext}
use Rattle.conn_log.specs.Legal.{limit_in_force}
use Rattle.conn_log.proofs.Soundness.{next_free}
use Rattle.host_state.proofs.Waits.{queue_started, spent_on}
use Rattle.host_state.proofs.state.State.lease_newest_fit.Goals as goal

pub returns-in_err-place-clause-none : goal.returns-in_err-place-clause-none
returns-in_err-place-clause-none g c =
    let kept = c.self.invariant.replays in
    let log_is = ap (λ (v : HostState g.row.S.Denot). v.log) c.self.view_is in
    let none = c.in_err-place.ensures.none in
    let nothing : newest_fit c.args.self.now.log c.args.want.now c.args.moment ≡ None = ap (λ log. newest_fit log c.args.want.now c.args.moment) (sym log_is) ∙ newest_read_none kept c.args.want.now c.args.moment none in
    if_none_always {P = (newest_fit c.args.self.now.log c.args.want.now c.args.moment ≡ None) × (c.args.self.now ≡ c.args.self.now)} _ (nothing, refl)

pub enter-requires-clause-absent : goal.enter-requires-clause-absent
enter-requires-clause-absent g c =
    let kept = c.self.invariant.replays in
    let log_is = ap (λ (v : HostState g.row.S.Denot). v.log) c.self.view_is in
    let next = subst (λ log. IsNext log c.args.want.now) (sym log_is) c.requires.next in
    table_absent _ _ _ _ _ _ kept c.args.want.now.transfer (next_free _ _ kept.sound.orderly c.args.want.now next)

pub start_next-requires : goal.start_next-requires
start_next-requires g c none =
    let queue = c.self.invariant.queue in
    subst (λ (v : HostState g.row.S.Denot). 0 < v.booked) (sym c.self.view_is) (c.requires.booked (ap (λ (v : HostState g.row.S.Denot). waiting v.log) (sym c.self.view_is) ∙ sym queue ∙ none))

pub enter-requires-clause-room : goal.enter-requires-clause-room
enter-requires-clause-room g c =
    let queue = c.self.invariant.queue in
    let had = λ (none : c.self.inside.queue.wants ≡ []). subst (λ (v : HostState g.row.S.Denot). 0 < v.booked) (sym c.self.view_is) (c.requires.booked (ap (λ (v : HostState g.row.S.Denot). waiting v.log) (sym c.self.view_is) ∙ sym queue ∙ none)) in
    let spent = spent_on c.self.inside.queue.wants _ c.self.inside.booked _ had c.start_next.ensures.wants c.start_next.ensures.booked in
    omega (arith, c.self.invariant.room.held_room, spent.places)

pub append-requires-clause-room : goal.append-requires-clause-room
append-requires-clause-room g c =
    let queue = c.self.invariant.queue in
    let had = λ (none : c.self.inside.queue.wants ≡ []). subst (λ (v : HostState g.row.S.Denot). 0 < v.booked) (sym c.self.view_is) (c.requires.booked (ap (λ (v : HostState g.row.S.Denot). waiting v.log) (sym c.self.view_is) ∙ sym queue ∙ none)) in
    let spent = spent_on c.self.inside.queue.wants _ c.self.inside.booked _ had c.start_next.ensures.wants c.start_next.ensures.booked in
    omega (arith, c.self.invariant.room.log_room, spent.entries)

pub invariant_of-self : goal.invariant_of-self
invariant_of-self g c =
    let kept = c.self.invariant.replays in
    let log_is = ap (λ (v : HostState g.row.S.Denot). v.log) c.self.view_is in
    let next = subst (λ log. IsNext log c.args.want.now) (sym log_is) c.requires.next in
    let room = c.self.invariant.room in
    let later = subst (λ log. last_moment log ≤ c.args.moment) (sym log_is) c.requires.later in
    let last = c.in_ok-place.ensures.found in
    let x = c.take_from-number.result in
    let queue = c.self.invariant.queue in
    let had = λ (none : c.self.inside.queue.wants ≡ []). subst (λ (v : HostState g.row.S.Denot). 0 < v.booked) (sym c.self.view_is) (c.requires.booked (ap (λ (v : HostState g.row.S.Denot). waiting v.log) (sym c.self.view_is) ∙ sym queue ∙ none)) in
    let spent = spent_on c.self.inside.queue.wants _ c.self.inside.booked _ had c.start_next.ensures.wants c.start_next.ensures.booked in
    let fit = read_fit _ _ _ _ _ _ kept c.args.want.now c.args.moment c.in_ok-place.place x last c.take_from-number.ensures.value in
    record {
      replays = rw (c.append.ensures.entries, c.take_from-number.ensures.items) (replays_lease _ _ _ _ _ _ kept c.args.moment later c.args.want.now c.in_ok-place.place x last.in_range c.take_from-number.ensures.value fit next (get nat_eq c.enter.new.table) _ c.enter.ensures.len c.enter.ensures.entered);
      limit = rw c.append.ensures.entries c.self.invariant.limit;
      queue = rw c.append.ensures.entries (queue_started _ _ _ _ c.args.want.now kept.sound.orderly.wait_once next queue c.start_next.ensures.wants);
      numbers = omega (arith, c.self.invariant.numbers, spent.places);
      room = record {
        log_room = omega (arith, room.log_room, c.append.ensures.room, c.enter.ensures.len, spent.entries, c.take_from-number.ensures.len);
        idle_room = omega (arith, room.idle_room, c.enter.ensures.len, spent.places, c.take_from-number.ensures.len, c.take_from-number.ensures.capacity);
        held_room = omega (arith, room.held_room, spent.places, c.enter.ensures.room);
        queue_room = omega (arith, room.queue_room, spent.fewer, c.start_next.ensures.room);
      };
    }

pub returns-clause-some : goal.returns-clause-some
returns-clause-some g c =
    let kept = c.self.invariant.replays in
    let log_is = ap (λ (v : HostState g.row.S.Denot). v.log) c.self.view_is in
    let last = c.in_ok-place.ensures.found in
    let x = c.take_from-number.result in
    let there = at_place kept c.in_ok-place.place x last.in_range c.take_from-number.ensures.value in
    let streams_is = ap (λ (v : HostState g.row.S.Denot). v.streams) c.self.view_is in
    let next = subst (λ log. IsNext log c.args.want.now) (sym log_is) c.requires.next in
    record {
      newest = ap (λ log. newest_fit log c.args.want.now c.args.moment) (sym log_is) ∙ newest_read kept c.args.want.now c.args.moment c.in_ok-place.place x last c.take_from-number.ensures.value;
      was_open = ap (λ log. is_open log x.number) (sym log_is) ∙ (let told = found_idle kept x.number x there in let open_unheld = idle_open_unheld c.self.inside.log.entries x.number told.0 in open_unheld.0);
      log = c.append.ensures.entries ∙ ap (λ log. add c.args.moment (Leased x.number c.args.want.now) log) log_is;
      kept = ap (λ streams. stream_of streams x.number) (sym streams_is) ∙ stream_of-streams_of c.self.inside.idle.items x.number ∙ ap (option_map (λ (y : Idle g.row.S.Denot). y.stream)) there;
      others = λ d other. rw c.take_from-number.ensures.items (stream_of-remove c.self.inside.idle.items c.in_ok-place.place x d kept.idle_distinct last.in_range c.take_from-number.ensures.value other ∙ ap (λ streams. stream_of streams d) streams_is);
      as_many_open = ap (λ log. length (open_connections log)) (c.append.ensures.entries ∙ ap (λ log. add c.args.moment (Leased x.number c.args.want.now) log) log_is);
      fewer_idle = ap (λ log. length (idle_connections log)) (sym log_is) ∙ fewer_idle_leased _ _ _ _ _ _ kept c.args.moment c.args.want.now c.in_ok-place.place x last.in_range c.take_from-number.ensures.value next ∙ ap (λ log. length (idle_connections log) + 1) (sym c.append.ensures.entries);
      limit = ap (limit_in_force (record { limit = c.self.inside.host_limit; first = c.self.inside.first })) c.append.ensures.entries ∙ ap (λ (v : HostState g.row.S.Denot). limit_in_force v.settings v.log) c.self.view_is;
      booked = c.start_next.ensures.booked ∙ ap (λ wants. booked_after_start wants c.self.inside.booked) (c.self.invariant.queue ∙ ap waiting log_is) ∙ ap (λ (v : HostState g.row.S.Denot). booked_after_start (waiting c.args.self.now.log) v.booked) c.self.view_is;
      same = record { settings = ap (λ (v : HostState g.row.S.Denot). v.settings) c.self.view_is; host = ap (λ (v : HostState g.row.S.Denot). v.host) c.self.view_is; cut_away = c.append.ensures.cut_away ∙ ap (λ (v : HostState g.row.S.Denot). v.cut_away) c.self.view_is };
    }
