use Rattle.std.proofs.Common.{◌≡◌, true, ℕ, length, sym, ap, subst, ◌∙◌, arith, rules}
use Rattle.std.specs.Prelude.{◌==◌}
use Rattle.conn_log.specs.Connections.{is_open}
use Rattle.bundle.specs.Lease.{Leasing, Using}
use Rattle.bundle.proofs.Seating.{apart, start_fits, seated_same, seated_leased, leased_granted}
use Rattle.bundle.proofs.Outcomes.{unless_booking}
use Rattle.bundle.proofs.Starting.{same_closed, begins_lease, given_after}
use Rattle.host_state.specs.State.{HostState, ClosesIdle}
use Rattle.host_state.specs.Steps.{is_full}
use Rattle.bundle.proofs.Asking.{not_due, is_due, waits_behind, one_fits, at_limit, has_room}
use Rattle.bundle.proofs.serving.start_or_wait.Goals as goal

pub lease-seat-requires-clause-apart : goal.lease-seat-requires-clause-apart
lease-seat-requires-clause-apart g c = apart c.args.state.now.log c.args.seats.now c.requires.seated c.in-Some.number c.args.want.transfer c.requires.may.free

pub returns-in-Some-clause-seats : goal.returns-in-Some-clause-seats
returns-in-Some-clause-seats g c =
    let before = c.args.state.now in
    let young = c.close_idle.new.state in
    let after = c.lease_newest_fit.new.self in
    let closed = c.close_idle.ensures in
    let leased = c.in-Some.ensures.some in
    let want = c.args.want in
    let seated = seated_same before.log young.log c.args.seats.now c.requires.seated (same_closed c.args.moment before young closed.closes closed.as_many_held) in
    let free = closed.closes.holders want.transfer ∙ c.requires.may.free in
    let begins = begins_lease young after c.in-Some.number c.args.moment want leased.log leased.as_many_open leased.fewer_idle in
    record {
      seated = seated_leased young.log after.log c.args.seats.now c.lease-seat.new.self c.in-Some.number want.transfer seated free begins c.lease-seat.ensures.seats;
      granted = leased_granted c.args.state.now.log c.args.seats.now c.lease-seat.new.self c.in-Some.number c.args.want.transfer c.requires.seated c.requires.may.free c.lease-seat.ensures.seats;
    }

pub returns-in-Some-clause-got : goal.returns-in-Some-clause-got
returns-in-Some-clause-got g c =
    let leased = c.in-Some.ensures.some in
    let number = ap (λ (l : Leasing g.row.S.Denot). l.start.number) c.new.ensures ∙ ap (λ (u : Using g.row.S.Denot). u.start.number) c.reusing-used.ensures in
    record {
      made_here = search rules;
      has_stream = search rules;
      stream = search rules;
      others = λ d other still. let was_open : is_open c.close_idle.new.state.log d ≡ true = ap (λ log. is_open log d) (sym leased.log) ∙ still in leased.others d (ap (λ (n : ℕ). n == d) (sym number) ∙ other) ∙ c.close_idle.ensures.closes.streams d was_open;
    }

pub lease-seat-requires-clause-few : goal.lease-seat-requires-clause-few
lease-seat-requires-clause-few g c =
    let before = c.args.state.now in
    let young = c.close_idle.new.state in
    let after = c.lease_newest_fit.new.self in
    let closed = c.close_idle.ensures in
    let leased = c.in-Some.ensures.some in
    let begins = begins_lease young after c.in-Some.number c.args.moment c.args.want leased.log leased.as_many_open leased.fewer_idle in
    start_fits before.log after.log c.args.seats.now c.requires.seated (omega (arith, begins.starts, closed.closes.starts)) c.total_len-entries.result (c.total_len-entries.ensures ∙ ap length c.log.ensures.entries) c.total_len-entries.type_inv

pub returns-then-anyone_waits-clause-asked : goal.returns-then-anyone_waits-clause-asked
returns-then-anyone_waits-clause-asked g c =
    let state = c.args.state.now in
    let behind = waits_behind state.settings state.log c.args.want c.args.moment (c.anyone_waits.ensures.yes c.if-anyone_waits.true) in
    not_due (λ n. g.P.Permits.asked c.args.permits.now c.args.permits.now n 0) _ behind (g.met.P.Permits.asked_from_start _)

pub returns-in-Some-clause-asked : goal.returns-in-Some-clause-asked
returns-in-Some-clause-asked g c =
    let state = c.args.state.now in
    let fits = one_fits state.settings state.log c.args.want c.args.moment c.close_idle.new.state.log c.close_idle.ensures.log c.in-Some.number c.in-Some.ensures.some.newest in
    not_due (λ n. g.P.Permits.asked c.args.permits.now c.release_kept.new.self n 0) _ fits (g.met.P.Permits.asked_on _ _ _ 0 0 0 0 c.close_idle.ensures.unasked c.release_kept.ensures.asked)

pub returns-then-is_full-clause-asked : goal.returns-then-is_full-clause-asked
returns-then-is_full-clause-asked g c =
    let state = c.args.state.now in
    let young = c.close_idle.new.state in
    let full = ap (λ settings. is_full settings young.log) (sym c.close_idle.ensures.closes.same.settings)
    ∙ ap (λ (s : HostState g.row.S.Denot). is_full s.settings s.log) (sym c.in_default.ensures.none.1) ∙ sym c.is_full.ensures ∙ c.if-is_full.true in
    let limited = at_limit state.settings state.log c.args.want c.args.moment young.log c.close_idle.ensures.log full in
    not_due (λ n. g.P.Permits.asked c.args.permits.now c.start_in_place.new.permits n 0) _ limited (g.met.P.Permits.asked_on _ _ _ 0 0 0 0 c.close_idle.ensures.unasked c.start_in_place.ensures.unasked)

pub returns-clause-asked : goal.returns-clause-asked
returns-clause-asked g c =
    let state = c.args.state.now in
    let young = c.close_idle.new.state in
    let room = ap (λ settings. is_full settings young.log) (sym c.close_idle.ensures.closes.same.settings)
    ∙ ap (λ (s : HostState g.row.S.Denot). is_full s.settings s.log) (sym c.in_default.ensures.none.1) ∙ sym c.is_full.ensures ∙ c.if-is_full.false in
    let due = has_room state.settings state.log c.args.want c.args.moment young.log c.close_idle.ensures.log (c.anyone_waits.ensures.no c.if-anyone_waits.false) c.in_default.ensures.none.0 room in
    is_due (λ n. g.P.Permits.asked c.args.permits.now c.start_as_told.new.permits n 0) _ due (g.met.P.Permits.asked_on _ _ _ 0 0 1 0 c.close_idle.ensures.unasked c.start_as_told.ensures.asked)

-- what it gives once the budget was asked, or in place of the oldest
pub returns-then-is_full-clause-got : goal.returns-then-is_full-clause-got
returns-then-is_full-clause-got g c =
    let between = c.lease_newest_fit.new.self in
    let closes = subst (λ (s : HostState g.row.S.Denot). ClosesIdle c.args.moment c.args.state.now s) (sym c.in_default.ensures.none.1) c.close_idle.ensures.closes in
    given_after c.args.moment c.args.state.now between c.start_in_place.new.state c.args.seats.now.tables closes c.start_in_place.ensures.streams c.start_in_place.result c.start_in_place.ensures.got

pub returns-clause-got : goal.returns-clause-got
returns-clause-got g c =
    let between = c.lease_newest_fit.new.self in
    let closes = subst (λ (s : HostState g.row.S.Denot). ClosesIdle c.args.moment c.args.state.now s) (sym c.in_default.ensures.none.1) c.close_idle.ensures.closes in
    given_after c.args.moment c.args.state.now between c.start_as_told.new.state c.args.seats.now.tables closes c.start_as_told.ensures.streams c.start_as_told.result c.start_as_told.ensures.got

pub returns-then-is_full-clause-fewer_booked : goal.returns-then-is_full-clause-fewer_booked
returns-then-is_full-clause-fewer_booked g c =
    let booked = ap (λ (s : HostState g.row.S.Denot). s.booked) c.in_default.ensures.none.1 ∙ c.close_idle.ensures.closes.booked in
    unless_booking c.start_in_place.result _ (c.start_in_place.ensures.fewer_booked ∙ booked)
