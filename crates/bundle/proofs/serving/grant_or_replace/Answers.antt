use Rattle.std.proofs.Common.{◌≡◌, length, sym, ap, subst, ◌∙◌, arith, rules}
use Rattle.conn_log.specs.declared.entry.Event.TheVariants.{Closed}
use Rattle.conn_log.specs.Waiting.{waiting}
use Rattle.conn_log.specs.Fit.{oldest}
use Rattle.conn_log.specs.Legal.{IsAnyone}
use Rattle.host_state.specs.Steps.{add, is_full}
use Rattle.host_state.specs.State.{HostState, booked_after_start}
use Rattle.host_state.specs.Calls.{open_for_head}
use Rattle.bundle.specs.Grants.{with_new}
use Rattle.bundle.proofs.StartLogs.{fewer_after_head}
use Rattle.conn_log.specs.Starts.{start_count}
use Rattle.bundle.specs.Seats.{SeatsShown}
use Rattle.bundle.proofs.Seating.{apart, seated_granted, start_fits, granted_ended}
use Rattle.bundle.proofs.Starting.{head_free, begins_lease, unclaimed_pushed}
use Rattle.bundle.proofs.Unfit.{unfit_closed, unfit_granted}
use Rattle.bundle.proofs.serving.grant_or_replace.Goals as goal

pub grant-requires-clause-apart : goal.grant-requires-clause-apart
grant-requires-clause-apart g c =
    let first = c.in-Some.ensures.some in
    let before = c.args.state.now in
    let free = head_free before.settings before.log c.in-Some.head first.others c.log-log.ensures.sound first.first in
    apart before.log c.args.seats.now c.requires.inside.seated c.in-Some-lease_newest_fit.number c.in-Some.head.transfer free

pub grant-requires-clause-few : goal.grant-requires-clause-few
grant-requires-clause-few g c =
    let more = ap start_count c.in-Some-lease_newest_fit.ensures.some.log in
    let entries = c.total_len-entries.ensures ∙ ap length c.log.ensures.entries in
    start_fits c.args.state.now.log c.lease_newest_fit.new.self.log c.args.seats.now c.requires.inside.seated more c.total_len-entries.result entries c.total_len-entries.type_inv

pub returns-in-Some-lease_newest_fit-clause-only : goal.returns-in-Some-lease_newest_fit-clause-only
returns-in-Some-lease_newest_fit-clause-only g c =
    record {
      starts = record {
        tables = ap (λ (h : SeatsShown). h.tables) c.grant.ensures;
        ended = granted_ended c.args.seats.now c.grant.new.self c.in-Some-lease_newest_fit.number c.in-Some.head.transfer c.grant.ensures;
      };
      booked = search rules;
      same = search rules;
    }

pub returns-in-Some-lease_newest_fit-clause-inside : goal.returns-in-Some-lease_newest_fit-clause-inside
returns-in-Some-lease_newest_fit-clause-inside g c =
    let first = c.in-Some.ensures.some in
    let before = c.args.state.now in
    let after = c.lease_newest_fit.new.self in
    let head = c.in-Some.head in
    let number = c.in-Some-lease_newest_fit.number in
    let leased = c.in-Some-lease_newest_fit.ensures.some in
    let free = head_free before.settings before.log head first.others c.log-log.ensures.sound first.first in
    let begins = begins_lease before after number c.args.moment head leased.log leased.as_many_open leased.fewer_idle in
    let fewer = fewer_after_head c.in-Some.head first.others (waiting before.log) first.first in
    let left = ap (λ log. length (waiting log)) leased.log in
    let booked = leased.booked ∙ ap (λ wants. booked_after_start wants before.booked) first.first in
    record {
      seated = seated_granted before.log after.log c.args.seats.now c.grant.new.self number head.transfer c.requires.inside.seated free begins c.grant.ensures;
      unclaimed = unclaimed_pushed c.args.grants.now.items c.push_reserved.new.self.items _ c.args.seats.now c.grant.new.self c.requires.inside.unclaimed c.grant.ensures c.push_reserved.ensures.items;
      spare = omega (arith, c.requires.inside.spare, fewer, left, booked, c.push_reserved.ensures.len, c.push_reserved.ensures.capacity);
    }

pub returns-clause-log : goal.returns-clause-log
returns-clause-log g c =
    let first = c.in-Some.ensures.some in
    let before = c.args.state.now in
    let between = c.lease_newest_fit.new.self in
    let none = c.in_default-lease_newest_fit.ensures.none in
    let same : between ≡ before = none.1 in
    let log = ap (λ (s : HostState g.row.S.Denot). s.log) same in
    let closed = c.close_oldest.ensures in
    let settings = closed.closes.same.settings ∙ ap (λ (s : HostState g.row.S.Denot). s.settings) same in
    let cause = c.unfit_cause-cause.result in
    let left = c.close_oldest.new.self.log in
    let alone = c.requires.alone (subst IsAnyone (sym first.first) tt) in
    let full = c.is_full.ensures ∙ ap (λ (s : HostState g.row.S.Denot). is_full s.settings s.log) same in
    let opened = c.open_for_head.ensures.log ∙ ap (λ s. open_for_head s c.args.moment left) settings in
    unfit_closed before.settings before.log c.in-Some.head first.others c.args.number c.args.lane c.args.born c.args.moment first.first alone none.0 closed.number c.is_full.result cause left c.open_for_head.new.state.log (ap oldest (sym log) ∙ closed.oldest) full c.unfit_cause-cause.ensures (closed.log ∙ ap (add c.args.moment (Closed closed.number cause)) log) opened

pub returns-clause-grants : goal.returns-clause-grants
returns-clause-grants g c =
    let first = c.in-Some.ensures.some in
    let before = c.args.state.now in
    let between = c.lease_newest_fit.new.self in
    let none = c.in_default-lease_newest_fit.ensures.none in
    let same : between ≡ before = none.1 in
    let log = ap (λ (s : HostState g.row.S.Denot). s.log) same in
    let closed = c.close_oldest.ensures in
    let settings = closed.closes.same.settings ∙ ap (λ (s : HostState g.row.S.Denot). s.settings) same in
    let cause = c.unfit_cause-cause.result in
    let left = c.close_oldest.new.self.log in
    let grants = c.args.grants.now.items in
    let alone = c.requires.alone (subst IsAnyone (sym first.first) tt) in
    let new = c.open_for_head.ensures.grants ∙ ap (λ s. with_new s c.args.moment left (waiting left) grants) settings in
    unfit_granted before.settings before.log c.in-Some.head first.others c.args.number c.args.lane c.args.born c.args.moment first.first alone none.0 closed.number cause left grants c.open_for_head.new.grants.items _ (closed.log ∙ ap (add c.args.moment (Closed closed.number cause)) log) new
