use Rattle.std.proofs.Common.{refl, ap, length, ◌∙◌, arith, rules}
use Rattle.conn_log.specs.declared.entry.Want.{Want}
use Rattle.std.specs.Prelude.{List}
use Rattle.host_state.specs.Idle.{stream_of}
use Rattle.bundle.specs.Lease.{HostShown}
use Rattle.bundle.proofs.Answering.{behind_same}
use Rattle.bundle.proofs.TurnLogs.{evict_keeps, of_idle_for_others, grants_keep, keeps_at, grows_at}
use Rattle.bundle.specs.Seats.{gone}
use Rattle.bundle.proofs.Seating.{seated_same, same_gone}
use Rattle.bundle.proofs.host.Bundle.evict_oldest.Goals as goal

pub invariant_of-self : goal.invariant_of-self
invariant_of-self g c =
    let inv = c.self.invariant in
    let closed = c.close_oldest.ensures in
    let closes = closed.closes in
    let after = evict_keeps _ _ _ _ _ _ c.args.now _ inv.settled inv.grants inv.bookings closes.same.settings c.moment-moment.ensures closes.holders closes.waiting closed.number c.spend-cause.result closed.oldest (of_idle_for_others c.spend-cause.result c.spend-cause.ensures.makes_room) closed.log in
    record {
      count = closes.booked ∙ inv.count;
      bookings = after.halfway;
      settled = after.settled;
      grants = after.same.kept;
      spare = omega (arith, inv.spare, closes.booked, ap (λ (wants : List Want). length wants) closes.waiting);
      seated = seated_same _ _ _ inv.seated (record { same = closes.holders; lengths = omega (arith, closed.fewer_open, closed.fewer_idle); starts = closes.starts });
      unclaimed = inv.unclaimed;
    }

pub returns-clause-host : goal.returns-clause-host
returns-clause-host g c =
    let inv = c.self.invariant in
    let closed = c.close_oldest.ensures in
    let closes = closed.closes in
    let after = evict_keeps _ _ _ _ _ _ c.args.now _ inv.settled inv.grants inv.bookings closes.same.settings c.moment-moment.ensures closes.holders closes.waiting closed.number c.spend-cause.result closed.oldest (of_idle_for_others c.spend-cause.result c.spend-cause.ensures.makes_room) closed.log in
    record {
      stays = record {
        same = search rules;
        booked = search rules;
        grew = grows_at _ _ _ (ap (λ (v : HostShown g.row.S.Denot). v.log) c.self.view_is) after.grew;
      };
      keeps = keeps_at _ _ _ c.self.view_is (grants_keep _ _ _ _ _ _ _ _ _ _ _ _ _ _ _ _ after.same);
      streams = λ d still. behind_same _ _ _ d (c.close_oldest.ensures.closes.streams d still)
          ∙ ap (λ (v : HostShown g.row.S.Denot). stream_of v.streams d) c.self.view_is;
    }

pub close_oldest-requires-clause-cause : goal.close_oldest-requires-clause-cause
close_oldest-requires-clause-cause g c = of_idle_for_others c.spend-cause.result c.spend-cause.ensures.makes_room

pub returns-clause-same_gone : goal.returns-clause-same_gone
returns-clause-same_gone g c =
    let inv = c.self.invariant in
    let closed = c.close_oldest.ensures in
    let closes = closed.closes in
    let seated = seated_same c.self.inside.state.log c.close_oldest.new.self.log c.self.inside.seats inv.seated (record { same = closes.holders; lengths = omega (arith, closed.fewer_open, closed.fewer_idle); starts = closes.starts }) in
    same_gone c.self.inside.state.log c.close_oldest.new.self.log c.self.inside.seats c.self.inside.seats inv.seated seated refl
    ∙ ap (λ (v : HostShown g.row.S.Denot). gone v.log) c.self.view_is

pub returns-clause-settled : goal.returns-clause-settled
returns-clause-settled g c = (invariant_of-self g c).settled

pub returns-clause-unasked : goal.returns-clause-unasked
returns-clause-unasked g c = g.met.P.Permits.asked_on _ _ _ 0 0 0 0 c.release_kept.ensures.asked c.release_open.ensures.asked
