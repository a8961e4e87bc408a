use Rattle.std.proofs.Common.{◌≡◌, ℕ, ◌≤◌, length, true, false, drop, Some, sym, ap, subst, ◌∙◌, ◌+◌, ◌-◌, arith}
use Rattle.std.specs.Prelude.{◌==◌, if◌then◌else◌, nat_eq}
use Rattle.std.specs.Option.{option_map}
use Rattle.std.specs.HashMap.{get}
use Rattle.std.specs.VecDeque.{deque_len}
use Rattle.std.proofs.lemmas.Bool.Decides.{nat_tests}
use Rattle.std.proofs.lemmas.List.{get_or_default}
use Rattle.conn_log.specs.declared.entry.Event.TheVariants.{Leased}
use Rattle.conn_log.specs.Connections.{last_moment, is_open, held_number, open_connections, idle_connections}
use Rattle.conn_log.specs.Waiting.{waiting}
use Rattle.conn_log.specs.Sound.{IsNext, IsNextAmong}
use Rattle.conn_log.specs.Legal.{limit_in_force}
use Rattle.conn_log.specs.Fit.{newest_fit, oldest_too_old}
use Rattle.conn_log.proofs.Steps.{idle_open_unheld}
use Rattle.host_state.specs.declared.idle.Idle.{Idle}
use Rattle.host_state.specs.Steps.{add}
use Rattle.host_state.specs.Idle.{stream_of}
use Rattle.host_state.specs.State.{HostState, booked_after_start}
use Rattle.host_state.proofs.Kept.{stream_of-streams_of, stream_of-remove}
use Rattle.host_state.proofs.Limits.{one_at_most}
use Rattle.host_state.proofs.Replaying.{found_idle, at_place, newest_read, none_too_old_read}
use Rattle.host_state.proofs.Transitions.{table_free, replays_same, read_fit, replays_lease, fewer_idle_leased}
use Rattle.host_state.proofs.Waits.{nobody, queue_started}
use Rattle.host_state.proofs.state.State.lease_last.Goals as goal

pub invariant_of-self-then-not-enter_if_free : goal.invariant_of-self-then-not-enter_if_free
invariant_of-self-then-not-enter_if_free g c =
    let kept = c.self.invariant.replays in
    let room = c.self.invariant.room in
    let refused : c.enter_if_free.result ≡ false = grind (arith, c.if-not-enter_if_free.true) in
    let none : length c.self.inside.queue.wants ≡ 0 = grind (arith, nat_tests, c.is_empty.ensures, c.if-not-is_empty.false) in
    let booked = ap (λ (v : HostState g.row.S.Denot). v.booked) c.self.view_is ∙ c.requires.none in
    record {
      replays = rw c.reserve.ensures.entries (replays_same _ _ _ _ _ _ kept (get nat_eq c.enter_if_free.new.table) _ (c.enter_if_free.ensures.kept refused) (c.enter_if_free.ensures.kept_len refused));
      limit = rw c.reserve.ensures.entries c.self.invariant.limit;
      queue = rw c.reserve.ensures.entries c.self.invariant.queue;
      numbers = c.self.invariant.numbers;
      room = record {
        log_room = omega (arith, room.log_room, c.reserve.ensures.never_less, c.enter_if_free.ensures.kept_len refused);
        idle_room = omega (arith, room.idle_room, c.enter_if_free.ensures.kept_len refused);
        held_room = omega (arith, none, booked);
        queue_room = room.queue_room;
      };
    }

pub invariant_of-self-2 : goal.invariant_of-self-2
invariant_of-self-2 g c =
    let kept = c.self.invariant.replays in
    let room = c.self.invariant.room in
    let log_is = ap (λ (v : HostState g.row.S.Denot). v.log) c.self.view_is in
    let later = subst (λ log. last_moment log ≤ c.args.moment) (sym log_is) c.requires.later in
    let entered : c.enter_if_free.result ≡ true = grind (arith, c.if-not-enter_if_free.false) in
    let free = table_free _ _ _ _ _ _ kept c.args.want.now.transfer (c.enter_if_free.ensures.free entered) in
    let none : length c.self.inside.queue.wants ≡ 0 = grind (arith, nat_tests, c.is_empty.ensures, c.if-not-is_empty.false) in
    let empty = nobody c.self.inside.queue.wants none in
    let booked = ap (λ (v : HostState g.row.S.Denot). v.booked) c.self.view_is ∙ c.requires.none in
    let next : IsNext c.self.inside.log.entries c.args.want.now = subst (λ wants. IsNextAmong wants (held_number c.self.inside.log.entries c.args.want.now.transfer) c.args.want.now) (sym empty ∙ c.self.invariant.queue) free in
    let place = deque_len c.self.inside.idle - 1 in
    let last = c.in_ok-last.ensures.suits in
    let x = c.take_last-number.result in
    let spare = one_at_most c.self.inside.has_limit_room in
    let same : c.in_ok-last.last.now ≡ x = c.in_ok-last.ensures.last ∙ get_or_default c.self.inside.idle.items place c.in_ok-last.last.now x last.in_range ∙ sym c.take_last-number.ensures.value in
    let put = subst (λ (y : Idle g.row.S.Denot). (t : ℕ) → get nat_eq c.enter_if_free.new.table t ≡ (if c.args.want.now.transfer == t then Some (record { number = y.number; lane = y.lane; born = y.born; forbids_reuse = c.args.want.now.forbid_reuse }) else get nat_eq c.self.inside.held t)) same (c.enter_if_free.ensures.entered entered) in
    let fit = read_fit _ _ _ _ _ _ kept c.args.want.now c.args.moment place x last c.take_last-number.ensures.value in
    record {
      replays = rw (c.append.ensures.entries, c.reserve.ensures.entries, c.take_last-number.ensures.items) (replays_lease _ _ _ _ _ _ kept c.args.moment later c.args.want.now place x last.in_range c.take_last-number.ensures.value fit next (get nat_eq c.enter_if_free.new.table) _ (c.enter_if_free.ensures.len entered) put);
      limit = rw (c.append.ensures.entries, c.reserve.ensures.entries) c.self.invariant.limit;
      queue = rw (c.append.ensures.entries, c.reserve.ensures.entries) (queue_started _ _ _ _ c.args.want.now kept.sound.orderly.wait_once next c.self.invariant.queue (empty ∙ sym (ap (drop 1) empty)));
      numbers = c.self.invariant.numbers;
      room = record {
        log_room = omega (arith, none, booked, spare, c.in-Ok.ensures.ok, c.append.ensures.room, c.enter_if_free.ensures.len entered, c.take_last-number.ensures.len, c.len.ensures, c.len-2.ensures.len);
        idle_room = omega (arith, room.idle_room, c.enter_if_free.ensures.len entered, c.take_last-number.ensures.len, c.take_last-number.ensures.capacity);
        held_room = omega (arith, none, booked);
        queue_room = room.queue_room;
      };
    }

pub returns-clause-alone : goal.returns-clause-alone
returns-clause-alone g c =
    let log_is = ap (λ (v : HostState g.row.S.Denot). v.log) c.self.view_is in
    let none : length c.self.inside.queue.wants ≡ 0 = grind (arith, nat_tests, c.is_empty.ensures, c.if-not-is_empty.false) in
    sym (ap waiting log_is) ∙ sym c.self.invariant.queue ∙ nobody c.self.inside.queue.wants none

pub returns-clause-none_too_old : goal.returns-clause-none_too_old
returns-clause-none_too_old g c =
    let kept = c.self.invariant.replays in
    let log_is = ap (λ (v : HostState g.row.S.Denot). v.log) c.self.view_is in
    let none = c.is_any_too_old.ensures.none (grind (arith, c.if-is_any_too_old.false)) in
    ap (λ log. oldest_too_old log c.args.want.now c.args.moment) (sym log_is) ∙ none_too_old_read kept c.args.want.now c.args.moment none

pub returns-clause-some : goal.returns-clause-some
returns-clause-some g c =
    let kept = c.self.invariant.replays in
    let log_is = ap (λ (v : HostState g.row.S.Denot). v.log) c.self.view_is in
    let place = deque_len c.self.inside.idle - 1 in
    let last = c.in_ok-last.ensures.suits in
    let x = c.take_last-number.result in
    let there = at_place kept place x last.in_range c.take_last-number.ensures.value in
    let streams_is = ap (λ (v : HostState g.row.S.Denot). v.streams) c.self.view_is in
    let none : length c.self.inside.queue.wants ≡ 0 = grind (arith, nat_tests, c.is_empty.ensures, c.if-not-is_empty.false) in
    let waiting_none = sym (ap waiting log_is) ∙ sym c.self.invariant.queue ∙ nobody c.self.inside.queue.wants none in
    let booked = ap (λ (v : HostState g.row.S.Denot). v.booked) c.self.view_is ∙ c.requires.none in
    let none_less : 0 ≡ c.args.self.now.booked - 1 = omega (arith, c.requires.none) in
    let entered : c.enter_if_free.result ≡ true = grind (arith, c.if-not-enter_if_free.false) in
    let free = table_free _ _ _ _ _ _ kept c.args.want.now.transfer (c.enter_if_free.ensures.free entered) in
    let next : IsNext c.self.inside.log.entries c.args.want.now = subst (λ wants. IsNextAmong wants (held_number c.self.inside.log.entries c.args.want.now.transfer) c.args.want.now) (sym (nobody c.self.inside.queue.wants none) ∙ c.self.invariant.queue) free in
    record {
      newest = ap (λ log. newest_fit log c.args.want.now c.args.moment) (sym log_is) ∙ newest_read kept c.args.want.now c.args.moment place x last c.take_last-number.ensures.value;
      was_open = ap (λ log. is_open log x.number) (sym log_is) ∙ (let told = found_idle kept x.number x there in let open_unheld = idle_open_unheld c.self.inside.log.entries x.number told.0 in open_unheld.0);
      log = c.append.ensures.entries ∙ ap (λ log. add c.args.moment (Leased x.number c.args.want.now) log) (c.reserve.ensures.entries ∙ log_is);
      kept = ap (λ streams. stream_of streams x.number) (sym streams_is) ∙ stream_of-streams_of c.self.inside.idle.items x.number ∙ ap (option_map (λ (y : Idle g.row.S.Denot). y.stream)) there;
      others = λ d other. rw c.take_last-number.ensures.items (stream_of-remove c.self.inside.idle.items place x d kept.idle_distinct last.in_range c.take_last-number.ensures.value other ∙ ap (λ streams. stream_of streams d) streams_is);
      as_many_open = ap (λ log. length (open_connections log)) (c.append.ensures.entries ∙ ap (λ log. add c.args.moment (Leased x.number c.args.want.now) log) (c.reserve.ensures.entries ∙ log_is));
      fewer_idle = ap (λ log. length (idle_connections log)) (sym log_is) ∙ fewer_idle_leased _ _ _ _ _ _ kept c.args.moment c.args.want.now place x last.in_range c.take_last-number.ensures.value next ∙ ap (λ log. length (idle_connections log) + 1) (sym (c.append.ensures.entries ∙ ap (λ log. add c.args.moment (Leased x.number c.args.want.now) log) c.reserve.ensures.entries));
      limit = ap (limit_in_force (record { limit = c.self.inside.host_limit; first = c.self.inside.first })) (c.append.ensures.entries ∙ ap (λ log. add c.args.moment (Leased x.number c.args.want.now) log) c.reserve.ensures.entries) ∙ ap (λ (v : HostState g.row.S.Denot). limit_in_force v.settings v.log) c.self.view_is;
      booked = booked ∙ none_less ∙ sym (ap (λ wants. booked_after_start wants c.args.self.now.booked) waiting_none);
      same = record { settings = ap (λ (v : HostState g.row.S.Denot). v.settings) c.self.view_is; host = ap (λ (v : HostState g.row.S.Denot). v.host) c.self.view_is; cut_away = c.append.ensures.cut_away ∙ c.reserve.ensures.cut_away ∙ ap (λ (v : HostState g.row.S.Denot). v.cut_away) c.self.view_is };
    }
