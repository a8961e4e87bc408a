use Rattle.std.proofs.Common.{◌≡◌, ◌+◌, ◌≤◌, length, Some, None, sym, ap, subst, ◌∙◌, arith}
use Rattle.std.specs.Prelude.{◌==◌, if◌then◌else◌}
use Rattle.conn_log.specs.Connections.{last_moment, open_connections, idle_connections, held_number}
use Rattle.conn_log.specs.Sound.{held_facts}
use Rattle.host_state.specs.State.{HostState, facts_of_held}
use Rattle.conn_log.proofs.Steps.{gone_closed}
use Rattle.host_state.proofs.Replaying.{table_from_log}
use Rattle.host_state.proofs.Transitions.{replays_drop, has_gone}
use Rattle.host_state.proofs.state.State.close_held.Goals as goal

pub invariant_of-self : goal.invariant_of-self
invariant_of-self g c =
    let kept = c.self.invariant.replays in
    let room = c.self.invariant.room in
    let log_is = ap (λ (v : HostState g.row.S.Denot). v.log) c.self.view_is in
    let there = table_from_log kept c.args.transfer c.args.held (subst (λ log. held_facts log c.args.transfer ≡ Some (facts_of_held c.args.held)) (sym log_is) c.requires.held) in
    let later = subst (λ log. last_moment log ≤ c.args.moment) (sym log_is) c.requires.later in
    record {
      replays = rw c.append.ensures.entries (replays_drop _ _ _ _ _ _ kept c.args.transfer c.args.held there c.args.moment later c.args.cause c.requires.cause _ _ c.take_out.ensures.taken c.take_out.ensures.len);
      limit = rw c.append.ensures.entries c.self.invariant.limit;
      queue = rw c.append.ensures.entries c.self.invariant.queue;
      numbers = c.self.invariant.numbers;
      room = record {
        log_room = omega (arith, room.log_room, c.append.ensures.room, c.take_out.ensures.len);
        idle_room = omega (arith, room.idle_room, c.take_out.ensures.len);
        held_room = omega (arith, room.held_room, c.take_out.ensures.room);
        queue_room = room.queue_room;
      };
    }

pub returns-clause-holders : goal.returns-clause-holders
returns-clause-holders g c t =
    let kept = c.self.invariant.replays in
    let log_is = ap (λ (v : HostState g.row.S.Denot). v.log) c.self.view_is in
    let there = table_from_log kept c.args.transfer c.args.held (subst (λ log. held_facts log c.args.transfer ≡ Some (facts_of_held c.args.held)) (sym log_is) c.requires.held) in
    let gone = has_gone _ _ _ _ _ _ kept c.args.transfer c.args.held there _ (gone_closed c.args.moment c.args.held.number c.args.cause c.self.inside.log.entries) in
    ap (λ log. held_number log t) c.append.ensures.entries ∙ gone.holders t ∙ ap (λ log. if c.args.transfer == t then None else held_number log t) log_is

pub returns-clause-fewer_open : goal.returns-clause-fewer_open
returns-clause-fewer_open g c =
    let kept = c.self.invariant.replays in
    let log_is = ap (λ (v : HostState g.row.S.Denot). v.log) c.self.view_is in
    let there = table_from_log kept c.args.transfer c.args.held (subst (λ log. held_facts log c.args.transfer ≡ Some (facts_of_held c.args.held)) (sym log_is) c.requires.held) in
    let gone = has_gone _ _ _ _ _ _ kept c.args.transfer c.args.held there _ (gone_closed c.args.moment c.args.held.number c.args.cause c.self.inside.log.entries) in
    ap (λ log. length (open_connections log)) (sym log_is) ∙ gone.fewer_open ∙ ap (λ log. length (open_connections log) + 1) (sym c.append.ensures.entries)

pub returns-clause-as_many_idle : goal.returns-clause-as_many_idle
returns-clause-as_many_idle g c =
    let kept = c.self.invariant.replays in
    let log_is = ap (λ (v : HostState g.row.S.Denot). v.log) c.self.view_is in
    let there = table_from_log kept c.args.transfer c.args.held (subst (λ log. held_facts log c.args.transfer ≡ Some (facts_of_held c.args.held)) (sym log_is) c.requires.held) in
    let gone = has_gone _ _ _ _ _ _ kept c.args.transfer c.args.held there _ (gone_closed c.args.moment c.args.held.number c.args.cause c.self.inside.log.entries) in
    ap (λ log. length (idle_connections log)) c.append.ensures.entries ∙ gone.as_many_idle ∙ ap (λ log. length (idle_connections log)) log_is
