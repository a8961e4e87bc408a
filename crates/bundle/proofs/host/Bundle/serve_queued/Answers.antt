use Rattle.std.proofs.Common.{ap, ◌∙◌, rules}
use Rattle.host_state.specs.Idle.{stream_of}
use Rattle.host_state.specs.Calls.{is_queued}
use Rattle.bundle.specs.Lease.{HostShown}
use Rattle.bundle.specs.Seats.{gone}
use Rattle.bundle.proofs.Seating.{same_gone}
use Rattle.bundle.proofs.Answering.{both_same}
use Rattle.bundle.proofs.TurnLogs.{turn_keeps, grants_keep, keeps_at, grows_at}
use Rattle.bundle.proofs.host.Bundle.serve_queued.Goals as goal

pub invariant_of-self : goal.invariant_of-self
invariant_of-self g c =
    let inv = c.self.invariant in
    let queued = ap (λ (v : HostShown g.row.S.Denot). is_queued v.settings v.log) c.self.view_is ∙ c.requires.queued in
    let after = turn_keeps _ _ _ _ _ _ _ c.args.now _ inv.settled queued inv.grants inv.bookings c.open_for_head.ensures.only.same.settings c.moment-moment.ensures c.open_for_head.ensures.log c.open_for_head.ensures.grants in
    record {
      count = c.open_for_head.ensures.only.booked ∙ inv.count;
      bookings = after.halfway;
      settled = after.settled;
      grants = after.same.kept;
      spare = c.open_for_head.ensures.inside.spare;
      seated = c.open_for_head.ensures.inside.seated;
      unclaimed = c.open_for_head.ensures.inside.unclaimed;
    }

pub returns-clause-host : goal.returns-clause-host
returns-clause-host g c =
    let inv = c.self.invariant in
    let queued = ap (λ (v : HostShown g.row.S.Denot). is_queued v.settings v.log) c.self.view_is ∙ c.requires.queued in
    let after = turn_keeps _ _ _ _ _ _ _ c.args.now _ inv.settled queued inv.grants inv.bookings c.open_for_head.ensures.only.same.settings c.moment-moment.ensures c.open_for_head.ensures.log c.open_for_head.ensures.grants in
    record {
      stays = record {
        same = search rules;
        booked = search rules;
        grew = grows_at _ _ _ (ap (λ (v : HostShown g.row.S.Denot). v.log) c.self.view_is) after.grew;
      };
      keeps = keeps_at _ _ _ c.self.view_is (grants_keep _ _ _ _ _ _ _ _ _ _ _ _ _ _ _ _ after.same);
      streams = λ d still. both_same _ _ _ _ d (after.streams d) (ap (λ streams. stream_of streams d) c.open_for_head.ensures.streams)
          ∙ ap (λ (v : HostShown g.row.S.Denot). stream_of v.streams d) c.self.view_is;
    }

pub returns-clause-same_gone : goal.returns-clause-same_gone
returns-clause-same_gone g c =
    let served = c.open_for_head.ensures in
    same_gone c.self.inside.state.log c.open_for_head.new.state.log c.self.inside.seats c.open_for_head.new.seats c.self.invariant.seated served.inside.seated served.only.starts.ended
    ∙ ap (λ (v : HostShown g.row.S.Denot). gone v.log) c.self.view_is

pub returns-clause-settled : goal.returns-clause-settled
returns-clause-settled g c =
    let inv = c.self.invariant in
    let queued = ap (λ (v : HostShown g.row.S.Denot). is_queued v.settings v.log) c.self.view_is ∙ c.requires.queued in
    (turn_keeps _ _ _ _ _ _ _ c.args.now _ inv.settled queued inv.grants inv.bookings c.open_for_head.ensures.only.same.settings c.moment-moment.ensures c.open_for_head.ensures.log c.open_for_head.ensures.grants).settled
