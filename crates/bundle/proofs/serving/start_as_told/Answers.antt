use Rattle.std.proofs.Common.{length, ap, ◌∙◌}
use Rattle.bundle.proofs.Seating.{apart, start_fits, seated_leased, leased_granted}
use Rattle.bundle.proofs.Outcomes.{unless_booking}
use Rattle.bundle.proofs.Starting.{begins_open}
use Rattle.bundle.proofs.Asking.{then_none}
use Rattle.bundle.proofs.serving.start_as_told.Goals as goal

pub lease-seat-requires-clause-apart : goal.lease-seat-requires-clause-apart
lease-seat-requires-clause-apart g c = apart c.args.state.now.log c.args.seats.now c.requires.seated c.open-number.result c.args.want.transfer c.requires.may.free

pub returns-in-Got-clause-seats : goal.returns-in-Got-clause-seats
returns-in-Got-clause-seats g c =
    let before = c.args.state.now in
    let after = c.open-number.new.self in
    let opened = c.open-number.ensures in
    let want = c.args.want in
    let begins = begins_open before after c.open-number.result c.args.moment want opened.log opened.more_open opened.as_many_idle in
    record {
      seated = seated_leased before.log after.log c.args.seats.now c.lease-seat.new.self c.open-number.result want.transfer c.requires.seated c.requires.may.free begins c.lease-seat.ensures.seats;
      granted = leased_granted c.args.state.now.log c.args.seats.now c.lease-seat.new.self c.open-number.result c.args.want.transfer c.requires.seated c.requires.may.free c.lease-seat.ensures.seats;
    }

pub lease-seat-requires-clause-few : goal.lease-seat-requires-clause-few
lease-seat-requires-clause-few g c =
    let before = c.args.state.now in
    let after = c.open-number.new.self in
    let opened = c.open-number.ensures in
    let begins = begins_open before after c.open-number.result c.args.moment c.args.want opened.log opened.more_open opened.as_many_idle in
    start_fits before.log after.log c.args.seats.now c.requires.seated begins.starts c.total_len-entries.result (c.total_len-entries.ensures ∙ ap length c.log.ensures.entries) c.total_len-entries.type_inv

pub returns-then-is_last-clause-asked : goal.returns-then-is_last-clause-asked
returns-then-is_last-clause-asked g c = then_none g.P.Permits.asked g.met.P.Permits.asked_on _ _ _ _ _ c.reserve_open.ensures.asked c.start_in_place.ensures.unasked

pub returns-then-is_last-clause-fewer_booked : goal.returns-then-is_last-clause-fewer_booked
returns-then-is_last-clause-fewer_booked g c = unless_booking c.start_in_place.result _ c.start_in_place.ensures.fewer_booked
