use Rattle.std.proofs.Common.{length, ap, ◌∙◌, arith, rules}
use Rattle.conn_log.specs.Waiting.{waiting}
use Rattle.host_state.specs.State.{booked_after_start}
use Rattle.bundle.specs.Seats.{SeatsShown}
use Rattle.bundle.proofs.StartLogs.{fewer_after_head}
use Rattle.conn_log.specs.Starts.{start_count}
use Rattle.bundle.proofs.Seating.{apart, seated_granted, start_fits, granted_ended}
use Rattle.bundle.proofs.Starting.{head_free, few_fit, begins_open, unclaimed_pushed}
use Rattle.bundle.proofs.serving.open_for_head.Goals as goal

pub grant-requires-clause-apart : goal.grant-requires-clause-apart
grant-requires-clause-apart g c =
    let first = c.in-Some.ensures.some in
    let before = c.args.state.now in
    let free = head_free before.settings before.log c.in-Some.head first.others c.log-log.ensures.sound first.first in
    apart before.log c.args.seats.now c.requires.inside.seated c.open-number.result c.in-Some.head.transfer free

pub grant-requires-clause-few_pairs : goal.grant-requires-clause-few_pairs
grant-requires-clause-few_pairs g c = few_fit c.args.state.now.log c.args.seats.now c.requires.inside.seated c.open_len-open.result c.open_len-open.ensures c.open_len-open.type_inv

pub grant-requires-clause-few : goal.grant-requires-clause-few
grant-requires-clause-few g c =
    let more = ap start_count c.open-number.ensures.log in
    let entries = c.total_len-entries.ensures ∙ ap length c.log.ensures.entries in
    start_fits c.args.state.now.log c.open-number.new.self.log c.args.seats.now c.requires.inside.seated more c.total_len-entries.result entries c.total_len-entries.type_inv

pub returns-clause-only : goal.returns-clause-only
returns-clause-only g c =
    record {
      starts = record {
        tables = ap (λ (h : SeatsShown). h.tables) c.grant.ensures;
        ended = granted_ended c.args.seats.now c.grant.new.self c.open-number.result c.in-Some.head.transfer c.grant.ensures;
      };
      booked = search rules;
      same = search rules;
    }

pub returns-clause-inside : goal.returns-clause-inside
returns-clause-inside g c =
    let first = c.in-Some.ensures.some in
    let before = c.args.state.now in
    let after = c.open-number.new.self in
    let head = c.in-Some.head in
    let number = c.open-number.result in
    let opened = c.open-number.ensures in
    let free = head_free before.settings before.log head first.others c.log-log.ensures.sound first.first in
    let begins = begins_open before after number c.args.moment head opened.log opened.more_open opened.as_many_idle in
    let fewer = fewer_after_head c.in-Some.head first.others (waiting before.log) first.first in
    let left = ap (λ log. length (waiting log)) c.open-number.ensures.log in
    let booked = c.open-number.ensures.booked ∙ ap (λ wants. booked_after_start wants before.booked) first.first in
    record {
      seated = seated_granted before.log after.log c.args.seats.now c.grant.new.self number head.transfer c.requires.inside.seated free begins c.grant.ensures;
      unclaimed = unclaimed_pushed c.args.grants.now.items c.push_reserved.new.self.items _ c.args.seats.now c.grant.new.self c.requires.inside.unclaimed c.grant.ensures c.push_reserved.ensures.items;
      spare = omega (arith, c.requires.inside.spare, fewer, left, booked, c.push_reserved.ensures.len, c.push_reserved.ensures.capacity);
    }
