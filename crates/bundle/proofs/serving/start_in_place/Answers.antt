use Rattle.std.proofs.Common.{length, ap, ◌∙◌, arith}
use Rattle.bundle.proofs.StartLogs.{oldest_not_next, keeps_all_but_closed}
use Rattle.bundle.proofs.Seating.{apart, start_fits, seated_same, seated_leased, leased_granted}
use Rattle.bundle.proofs.Starting.{begins_open, same_closed_many}
use Rattle.bundle.proofs.serving.start_in_place.Goals as goal

pub lease-seat-requires-clause-apart : goal.lease-seat-requires-clause-apart
lease-seat-requires-clause-apart g c = apart c.args.state.now.log c.args.seats.now c.requires.seated c.open-number.result c.args.want.transfer c.requires.may.free

pub returns-clause-seats : goal.returns-clause-seats
returns-clause-seats g c =
    let before = c.args.state.now in
    let between = c.close_oldest.new.self in
    let after = c.open-number.new.self in
    let closed = c.close_oldest.ensures in
    let opened = c.open-number.ensures in
    let want = c.args.want in
    let seated = seated_same before.log between.log c.args.seats.now c.requires.seated (same_closed_many c.args.moment 1 before between closed.closes closed.fewer_open closed.fewer_idle) in
    let free = closed.closes.holders want.transfer ∙ c.requires.may.free in
    let begins = begins_open between after c.open-number.result c.args.moment want opened.log opened.more_open opened.as_many_idle in
    record {
      seated = seated_leased between.log after.log c.args.seats.now c.lease-seat.new.self c.open-number.result want.transfer seated free begins c.lease-seat.ensures.seats;
      granted = leased_granted c.args.state.now.log c.args.seats.now c.lease-seat.new.self c.open-number.result c.args.want.transfer c.requires.seated c.requires.may.free c.lease-seat.ensures.seats;
    }

pub returns-clause-streams : goal.returns-clause-streams
returns-clause-streams g c =
    let closed = c.close_oldest.ensures in
    let opened = c.open-number.ensures in
    let between = c.close_oldest.new.self in
    let apart = oldest_not_next between.settings c.args.state.now.log between.log closed.number c.open-number.result closed.oldest closed.closes.opened opened.number in
    keeps_all_but_closed c.args.state.now between c.open-number.new.self closed.number c.open-number.result apart closed.others closed.closes.streams opened.opened opened.streams

pub lease-seat-requires-clause-few : goal.lease-seat-requires-clause-few
lease-seat-requires-clause-few g c =
    let before = c.args.state.now in
    let between = c.close_oldest.new.self in
    let after = c.open-number.new.self in
    let closed = c.close_oldest.ensures in
    let opened = c.open-number.ensures in
    let begins = begins_open between after c.open-number.result c.args.moment c.args.want opened.log opened.more_open opened.as_many_idle in
    start_fits before.log after.log c.args.seats.now c.requires.seated (omega (arith, begins.starts, closed.closes.starts)) c.total_len-entries.result (c.total_len-entries.ensures ∙ ap length c.log.ensures.entries) c.total_len-entries.type_inv
