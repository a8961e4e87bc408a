use Rattle.std.proofs.Common.{◌≡◌, ℕ, ◌+◌, ◌-◌, ◌≤◌, length, true, false, take, drop, refl, sym, ap, subst, ◌∙◌, arith}
use Rattle.std.proofs.lemmas.List.{length-drop}
use Rattle.conn_log.specs.declared.entry.Cause.TheVariants.{HostRoom}
use Rattle.conn_log.specs.declared.entry.Event.TheVariants.{Limit}
use Rattle.conn_log.specs.Connections.{last_moment, open_connections, idle_connections}
use Rattle.host_state.specs.Steps.{add, close_each}
use Rattle.host_state.specs.Idle.{numbers, streams_of}
use Rattle.host_state.specs.State.{HostState, SetsLimit, entries_of_limit}
use Rattle.host_state.proofs.Limits.{has_closed, sets_limit, replays_set}
use Rattle.host_state.proofs.state.State.set_limit.Goals as goal

pub append-requires-clause-moment : goal.append-requires-clause-moment
append-requires-clause-moment g c =
    let kept = c.self.invariant.replays in
    let state = c.self.inside in
    let log_is = ap (λ (v : HostState g.row.S.Denot). v.log) c.self.view_is in
    let later = subst (λ log. last_moment log ≤ c.args.moment) (sym log_is) c.requires.later in
    let above = c.saturating_sub-above.result in
    let above_is : above ≡ length (open_connections state.log.entries) - c.args.limit = c.saturating_sub-above.ensures ∙ ap (λ (n : ℕ). n - c.args.limit) (c.open_len-open_len.ensures ∙ ap (λ log. length (open_connections log)) (sym log_is)) in
    let few_held = subst (λ log. length (open_connections log) ≤ length (idle_connections log) + c.args.limit) (sym log_is) c.requires.held in
    let within : above ≤ length state.idle.items = omega (arith, above_is, few_held, kept.idle_len) in
    let closed = has_closed _ _ _ _ _ _ kept c.args.moment above 0 0 0 true later within in
    rw c.close_oldest_of.ensures.entries closed.closes.later

pub invariant_of-self : goal.invariant_of-self
invariant_of-self g c =
    let kept = c.self.invariant.replays in
    let state = c.self.inside in
    let log_is = ap (λ (v : HostState g.row.S.Denot). v.log) c.self.view_is in
    let later = subst (λ log. last_moment log ≤ c.args.moment) (sym log_is) c.requires.later in
    let above = c.saturating_sub-above.result in
    let above_is : above ≡ length (open_connections state.log.entries) - c.args.limit = c.saturating_sub-above.ensures ∙ ap (λ (n : ℕ). n - c.args.limit) (c.open_len-open_len.ensures ∙ ap (λ log. length (open_connections log)) (sym log_is)) in
    let few_held = subst (λ log. length (open_connections log) ≤ length (idle_connections log) + c.args.limit) (sym log_is) c.requires.held in
    let within : above ≤ length state.idle.items = omega (arith, above_is, few_held, kept.idle_len) in
    let closed = has_closed _ _ _ _ _ _ kept c.args.moment above 0 0 0 true later within in
    let room = c.self.invariant.room in
    let left : length c.close_oldest_of.new.idle.items ≡ length state.idle.items - above = ap length c.close_oldest_of.ensures.items ∙ length-drop above state.idle.items in
    let had = subst (λ (v : HostState g.row.S.Denot). v.has_limit_room ≡ true) (sym c.self.view_is) c.requires.room in
    let one : entries_of_limit state.has_limit_room ≡ 1 = ap entries_of_limit had in
    record {
      replays = rw (c.append.ensures.entries, c.close_oldest_of.ensures.entries, c.close_oldest_of.ensures.items) (replays_set _ _ _ _ _ _ kept c.args.moment above later within c.args.limit (omega (arith, above_is)));
      limit = rw c.append.ensures.entries refl;
      queue = rw (c.append.ensures.entries, c.close_oldest_of.ensures.entries) (c.self.invariant.queue ∙ sym closed.closes.waiting);
      numbers = c.self.invariant.numbers;
      room = record {
        log_room = omega (arith, room.log_room, one, left, within, c.close_oldest_of.ensures.room, c.append.ensures.room);
        idle_room = omega (arith, room.idle_room, left, c.close_oldest_of.ensures.capacity);
        held_room = room.held_room;
        queue_room = room.queue_room;
      };
    }

pub returns : goal.returns
returns g c =
    let kept = c.self.invariant.replays in
    let state = c.self.inside in
    let log_is = ap (λ (v : HostState g.row.S.Denot). v.log) c.self.view_is in
    let later = subst (λ log. last_moment log ≤ c.args.moment) (sym log_is) c.requires.later in
    let above = c.saturating_sub-above.result in
    let above_is : above ≡ length (open_connections state.log.entries) - c.args.limit = c.saturating_sub-above.ensures ∙ ap (λ (n : ℕ). n - c.args.limit) (c.open_len-open_len.ensures ∙ ap (λ log. length (open_connections log)) (sym log_is)) in
    let few_held = subst (λ log. length (open_connections log) ≤ length (idle_connections log) + c.args.limit) (sym log_is) c.requires.held in
    let within : above ≤ length state.idle.items = omega (arith, above_is, few_held, kept.idle_len) in
    let new : HostState g.row.S.Denot = record { log = add c.args.moment (Limit c.args.limit) (close_each HostRoom c.args.moment (take above (numbers state.idle.items)) state.log.entries); cut_away = state.log.cut_away; settings = record { limit = state.host_limit; first = state.first }; host = state.host; streams = streams_of (drop above state.idle.items); booked = state.booked; has_limit_room = false } in
    rw (c.append.ensures.entries, c.append.ensures.cut_away, c.close_oldest_of.ensures.entries, c.close_oldest_of.ensures.cut_away, c.close_oldest_of.ensures.items) (subst (λ (v : HostState g.row.S.Denot). SetsLimit c.args.limit c.args.moment above v new) c.self.view_is (sets_limit _ _ _ _ _ _ kept c.args.moment above state.host state.booked state.log.cut_away state.has_limit_room false later within c.args.limit above_is))
