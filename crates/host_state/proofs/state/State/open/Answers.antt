use Rattle.std.proofs.Common.{◌≡◌, ◌<◌, ◌≤◌, ◌+◌, [], true, false, length, refl, sym, ap, subst, ◌∙◌, arith}
use Rattle.std.specs.Prelude.{nat_eq}
use Rattle.std.specs.HashMap.{get}
use Rattle.conn_log.specs.Connections.{last_moment, open_connections, is_open, idle_connections}
use Rattle.conn_log.specs.declared.entry.Event.TheVariants.{Opened}
use Rattle.host_state.specs.Steps.{add, is_full}
use Rattle.host_state.specs.State.{HostState, booked_after_start}
use Rattle.conn_log.proofs.Steps.{open_before}
use Rattle.host_state.proofs.Transitions.{table_absent, below_limit, replays_open, more_open_at, as_many_idle_at}
use Rattle.conn_log.specs.Waiting.{waiting}
use Rattle.conn_log.specs.Sound.{IsNext}
use Rattle.conn_log.proofs.Soundness.{next_free}
use Rattle.host_state.proofs.Waits.{queue_started, spent_on}
use Rattle.host_state.proofs.state.State.open.Goals as goal

pub enter-requires-clause-absent : goal.enter-requires-clause-absent
enter-requires-clause-absent g c =
    let kept = c.self.invariant.replays in
    let log_is = ap (λ (v : HostState g.row.S.Denot). v.log) c.self.view_is in
    let next = subst (λ log. IsNext log c.args.want.now) (sym log_is) c.requires.next in
    table_absent _ _ _ _ _ _ kept c.args.want.now.transfer (next_free _ _ kept.sound.orderly c.args.want.now next)

pub start_next-requires : goal.start_next-requires
start_next-requires g c none =
    let queue = c.self.invariant.queue in
    subst (λ (v : HostState g.row.S.Denot). 0 < v.booked) (sym c.self.view_is) (c.requires.booked (ap (λ (v : HostState g.row.S.Denot). waiting v.log) (sym c.self.view_is) ∙ sym queue ∙ none))

pub enter-requires-clause-room : goal.enter-requires-clause-room
enter-requires-clause-room g c =
    let queue = c.self.invariant.queue in
    let had = λ (none : c.self.inside.queue.wants ≡ []). subst (λ (v : HostState g.row.S.Denot). 0 < v.booked) (sym c.self.view_is) (c.requires.booked (ap (λ (v : HostState g.row.S.Denot). waiting v.log) (sym c.self.view_is) ∙ sym queue ∙ none)) in
    let spent = spent_on c.self.inside.queue.wants _ c.self.inside.booked _ had c.start_next.ensures.wants c.start_next.ensures.booked in
    omega (arith, c.self.invariant.room.held_room, spent.places)

pub append-requires-clause-room : goal.append-requires-clause-room
append-requires-clause-room g c =
    let queue = c.self.invariant.queue in
    let had = λ (none : c.self.inside.queue.wants ≡ []). subst (λ (v : HostState g.row.S.Denot). 0 < v.booked) (sym c.self.view_is) (c.requires.booked (ap (λ (v : HostState g.row.S.Denot). waiting v.log) (sym c.self.view_is) ∙ sym queue ∙ none)) in
    let spent = spent_on c.self.inside.queue.wants _ c.self.inside.booked _ had c.start_next.ensures.wants c.start_next.ensures.booked in
    omega (arith, c.self.invariant.room.log_room, spent.entries)

pub overflow_add-self : goal.overflow_add-self
overflow_add-self g c =
    let queue = c.self.invariant.queue in
    let had = λ (none : c.self.inside.queue.wants ≡ []). subst (λ (v : HostState g.row.S.Denot). 0 < v.booked) (sym c.self.view_is) (c.requires.booked (ap (λ (v : HostState g.row.S.Denot). waiting v.log) (sym c.self.view_is) ∙ sym queue ∙ none)) in
    let spent = spent_on c.self.inside.queue.wants _ c.self.inside.booked _ had c.start_next.ensures.wants c.start_next.ensures.booked in
    omega (arith, c.self.invariant.numbers, spent.places)

pub returns-clause-booked : goal.returns-clause-booked
returns-clause-booked g c =
    let log_is = ap (λ (v : HostState g.row.S.Denot). v.log) c.self.view_is in
    c.start_next.ensures.booked ∙ ap (λ wants. booked_after_start wants c.self.inside.booked) (c.self.invariant.queue ∙ ap waiting log_is) ∙ ap (λ (v : HostState g.row.S.Denot). booked_after_start (waiting c.args.self.now.log) v.booked) c.self.view_is

pub invariant_of-self : goal.invariant_of-self
invariant_of-self g c =
    let kept = c.self.invariant.replays in
    let log_is = ap (λ (v : HostState g.row.S.Denot). v.log) c.self.view_is in
    let next = subst (λ log. IsNext log c.args.want.now) (sym log_is) c.requires.next in
    let room = c.self.invariant.room in
    let later = subst (λ log. last_moment log ≤ c.args.moment) (sym log_is) c.requires.later in
    let not_full : is_full (record { limit = c.self.inside.host_limit; first = c.self.inside.first }) c.self.inside.log.entries ≡ false = ap (λ (v : HostState g.row.S.Denot). is_full v.settings v.log) c.self.view_is ∙ c.requires.room in
    let queue = c.self.invariant.queue in
    let had = λ (none : c.self.inside.queue.wants ≡ []). subst (λ (v : HostState g.row.S.Denot). 0 < v.booked) (sym c.self.view_is) (c.requires.booked (ap (λ (v : HostState g.row.S.Denot). waiting v.log) (sym c.self.view_is) ∙ sym queue ∙ none)) in
    let spent = spent_on c.self.inside.queue.wants _ c.self.inside.booked _ had c.start_next.ensures.wants c.start_next.ensures.booked in
    let below = below_limit _ _ _ _ _ _ kept not_full in
    record {
      replays = rw c.append.ensures.entries (replays_open _ _ _ _ _ _ kept c.args.moment later c.args.want.now (c.self.inside.greatest + 1) refl below next (get nat_eq c.enter.new.table) _ c.enter.ensures.len c.enter.ensures.entered);
      limit = rw c.append.ensures.entries c.self.invariant.limit;
      queue = rw c.append.ensures.entries (queue_started _ _ _ _ c.args.want.now kept.sound.orderly.wait_once next queue c.start_next.ensures.wants);
      numbers = omega (arith, c.self.invariant.numbers, spent.places);
      room = record {
        log_room = omega (arith, room.log_room, c.append.ensures.room, c.enter.ensures.len, spent.entries);
        idle_room = omega (arith, room.idle_room, c.enter.ensures.len, spent.places);
        held_room = omega (arith, room.held_room, spent.places, c.enter.ensures.room);
        queue_room = omega (arith, room.queue_room, spent.fewer, c.start_next.ensures.room);
      };
    }

pub returns-clause-opened : goal.returns-clause-opened
returns-clause-opened g c d other still =
    let kept = c.self.invariant.replays in
    let log_is = ap (λ (v : HostState g.row.S.Denot). v.log) c.self.view_is in
    let n = c.self.inside.greatest + 1 in
    let after = add c.args.moment (Opened n c.args.want.now) c.self.inside.log.entries in
    let open_after : is_open after d ≡ true = ap (λ log. is_open log d) (sym c.append.ensures.entries) ∙ still in
    ap (λ log. is_open log d) (sym log_is) ∙ open_before n d c.args.moment c.args.want.now c.self.inside.log.entries other open_after

pub returns-clause-more_open : goal.returns-clause-more_open
returns-clause-more_open g c =
    let kept = c.self.invariant.replays in
    let log_is = ap (λ (v : HostState g.row.S.Denot). v.log) c.self.view_is in
    let next = subst (λ log. IsNext log c.args.want.now) (sym log_is) c.requires.next in
    let not_full : is_full (record { limit = c.self.inside.host_limit; first = c.self.inside.first }) c.self.inside.log.entries ≡ false = ap (λ (v : HostState g.row.S.Denot). is_full v.settings v.log) c.self.view_is ∙ c.requires.room in
    ap (λ log. length (open_connections log)) c.append.ensures.entries
    ∙ more_open_at _ _ _ _ _ _ kept c.args.moment c.args.want.now (c.self.inside.greatest + 1) refl not_full next
    ∙ ap (λ log. length (open_connections log) + 1) log_is

pub returns-clause-as_many_idle : goal.returns-clause-as_many_idle
returns-clause-as_many_idle g c =
    let kept = c.self.invariant.replays in
    let log_is = ap (λ (v : HostState g.row.S.Denot). v.log) c.self.view_is in
    let next = subst (λ log. IsNext log c.args.want.now) (sym log_is) c.requires.next in
    let not_full : is_full (record { limit = c.self.inside.host_limit; first = c.self.inside.first }) c.self.inside.log.entries ≡ false = ap (λ (v : HostState g.row.S.Denot). is_full v.settings v.log) c.self.view_is ∙ c.requires.room in
    ap (λ log. length (idle_connections log)) c.append.ensures.entries
    ∙ as_many_idle_at _ _ _ _ _ _ kept c.args.moment c.args.want.now (c.self.inside.greatest + 1) refl not_full next
    ∙ ap (λ log. length (idle_connections log)) log_is
