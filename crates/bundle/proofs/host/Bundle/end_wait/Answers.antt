use Rattle.std.proofs.Common.{◌≡◌, ℕ, length, Some, None, true, refl, sym, ap, subst, ◌∙◌, arith, rules}
use Rattle.conn_log.specs.declared.entry.Want.{Want}
use Rattle.conn_log.specs.declared.entry.Cause.TheVariants.{Withdrawn}
use Rattle.conn_log.specs.declared.entry.Event.TheVariants.{Left}
use Rattle.conn_log.specs.Connections.{open_connections}
use Rattle.conn_log.specs.Waiting.{waiting, waits}
use Rattle.conn_log.specs.Starts.{start_count}
use Rattle.host_state.specs.Calls.{after_withdraw, is_queued, is_freed}
use Rattle.host_state.specs.Idle.{stream_of}
use Rattle.host_state.specs.Steps.{moment_at}
use Rattle.host_state.specs.Laws.{IsSoundAndQuiet}
use Rattle.bundle.specs.Grants.{grant_starts}
use Rattle.bundle.specs.Lease.{HostShown, is_valid_ticket}
use Rattle.host_state.specs.Counts.{held_by}
use Rattle.bundle.specs.Seats.{AreUnclaimed, LeaseSeats, gone}
use Rattle.bundle.specs.declared.did.Did.TheVariants.{Wrote}
use Rattle.bundle.specs.Passes.{tells}
use Rattle.host_state.proofs.Growth.{grows_withdraw}
use Rattle.host_state.proofs.Soundness.{kept_withdraw}
use Rattle.host_state.proofs.Marks.{mark_withdraw}
use Rattle.host_state.proofs.Transfers.{held_here}
use Rattle.bundle.proofs.StartLogs.{fewer_without}
use Rattle.bundle.proofs.Answering.{known, there_where, held_told, stood_waits, claimed_number, freed_spends, spends_at, apart_open}
use Rattle.bundle.proofs.Settling.{Settled, settled_closed, room_closed, left_log, withdrawn_log, gone_open, left_moved, grows_from, unmarked_from}
use Rattle.bundle.proofs.Halfway.{booked_freed}
use Rattle.host_state.proofs.FreedPermits.{part_fewer, freed_close}
use Rattle.bundle.proofs.Seating.{granted_once, granted_unsplit, seated_claimed, unclaimed_claimed, unclaimed_same, same_gone}
use Rattle.bundle.proofs.LeaseEnds.{ends_closed, seated_left, seated_spent, granted_spent, gone_spent}
use Rattle.bundle.proofs.Resting.{not_freed}
use Rattle.bundle.proofs.Telling.{accounts_told}
use Rattle.bundle.proofs.Accounting.{accounts_spent, withdraws_as}
use Rattle.bundle.proofs.host.Bundle.end_wait.Given.{Over}
use Rattle.bundle.proofs.host.Bundle.end_wait.Goals as goal

pub leave-requires-clause-waits : goal.leave-requires-clause-waits
leave-requires-clause-waits g c =
    let test : c.is_valid_ticket.result ≡ true = grind (arith, c.if-not-is_valid_ticket.false) in
    let stood = ap (λ (v : HostShown g.row.S.Denot). is_valid_ticket v c.want-want.result) c.self.view_is ∙ sym c.is_valid_ticket.ensures ∙ test in
    stood_waits c.self.inside.state.log c.self.inside.grants.items c.want-want.result (sym c.in_default.ensures.grant) stood

-- so the transfer waits until it leaves
waited : (g : Over) (c : goal.After-tell-in_default g) → waits c.self.inside.state.log c.want-want.result.transfer ≡ true
waited g c =
    let test : c.is_valid_ticket.result ≡ true = grind (arith, c.if-not-is_valid_ticket.false) in
    let stood = ap (λ (v : HostShown g.row.S.Denot). is_valid_ticket v c.want-want.result) c.self.view_is ∙ sym c.is_valid_ticket.ensures ∙ test in
    stood_waits c.self.inside.state.log c.self.inside.grants.items c.want-want.result (sym c.in_default.ensures.grant) stood

pub invariant_of-self : goal.invariant_of-self
invariant_of-self g c =
    let state = c.self.inside.state in
    let grants = c.self.inside.grants.items in
    let inv = c.self.invariant in
    let t = c.want-want.result.transfer in
    let waits_here = waited g c in
    let is = left_log state.settings state.log t c.args.now c.moment-moment.result c.leave.new.self.log waits_here c.moment-moment.ensures c.leave.ensures.log in
    let freed = left_moved state.settings state.log inv.settled.sound.orderly grants inv.grants c.moment-moment.result t waits_here c.leave.new.self.log c.leave.ensures.log c.take_grant.new.grants.items c.in_default.ensures.unchanged in
    let fewer = fewer_without t (waiting state.log) in
    record {
      count = c.leave.ensures.booked ∙ inv.count;
      bookings = booked_freed _ _ _ _ _ inv.grants freed c.self.inside.bookings.items inv.bookings;
      settled = subst (λ settings. IsSoundAndQuiet settings c.leave.new.self.log) (sym c.leave.ensures.same.settings) (subst (λ log. IsSoundAndQuiet state.settings log) (sym is) (kept_withdraw state.settings state.log t c.args.now inv.settled));
      grants = freed.kept;
      spare = omega (arith, inv.spare, fewer, ap (λ log. length (waiting log)) c.leave.ensures.log, c.leave.ensures.booked, c.take_grant.ensures.len, c.take_grant.ensures.capacity);
      seated = seated_left state.log c.leave.new.self.log c.self.inside.seats _ t inv.seated c.leave.ensures.log c.leave.ensures.as_many_open c.leave.ensures.as_many_idle;
      unclaimed = subst (λ gs. AreUnclaimed (grant_starts gs) c.self.inside.seats) (sym c.in_default.ensures.unchanged) inv.unclaimed;
    }

pub returns-in_default-clause-ended : goal.returns-in_default-clause-ended
returns-in_default-clause-ended g c =
    let state = c.self.inside.state in
    let t = c.want-want.result.transfer in
    let waits_here = waited g c in
    let who : t ≡ c.args.ticket.wait.want.transfer = ap (λ (w : Want). w.transfer) c.want-want.ensures in
    let named : after_withdraw state.settings state.log t c.args.now ≡ after_withdraw c.args.self.now.settings c.args.self.now.log c.args.ticket.wait.want.transfer c.args.now = ap (λ (n : ℕ). after_withdraw state.settings state.log n c.args.now) who ∙ ap (λ (v : HostShown g.row.S.Denot). after_withdraw v.settings v.log c.args.ticket.wait.want.transfer c.args.now) c.self.view_is in
    let grants = c.self.inside.grants.items in
    let inv = c.self.invariant in
    let freed = left_moved state.settings state.log inv.settled.sound.orderly grants inv.grants c.moment-moment.result t waits_here c.leave.new.self.log c.leave.ensures.log c.take_grant.new.grants.items c.in_default.ensures.unchanged in
    record {
      valid = search rules;
      log = left_log state.settings state.log t c.args.now c.moment-moment.result c.leave.new.self.log waits_here c.moment-moment.ensures c.leave.ensures.log ∙ named;
      freed_is = not_freed c.args.self.now.log c.leave.new.self.log (c.leave.ensures.as_many_open ∙ ap (λ (v : HostShown g.row.S.Denot). length (open_connections v.log)) c.self.view_is);
      streams = search rules;
      spends = spends_at _ _ _ _ _ c.self.view_is who (freed_spends _ _ _ _ _ _ _ _ _ _ _ _ _ _ _ _ _ freed);
    }

pub returns-in_default-clause-host : goal.returns-in_default-clause-host
returns-in_default-clause-host g c =
    let state = c.self.inside.state in
    let t = c.want-want.result.transfer in
    let waits_here = waited g c in
    let is = left_log state.settings state.log t c.args.now c.moment-moment.result c.leave.new.self.log waits_here c.moment-moment.ensures c.leave.ensures.log in
    let grew = grows_withdraw state.settings state.log t c.args.now in
    record {
      same = search rules;
      booked = search rules;
      grew = grows_from state.log c.args.self.now.log c.leave.new.self.log (ap (λ (v : HostShown g.row.S.Denot). v.log) c.self.view_is) (grew.0, is ∙ grew.1);
    }

pub unwrap-held-requires : goal.unwrap-held-requires
unwrap-held-requires g c =
    let state = c.self.inside.state in
    let grants = c.self.inside.grants.items in
    let inv = c.self.invariant in
    let t = c.want-want.result.transfer in
    let number = claimed_number state.settings state.log inv.settled.sound.orderly grants inv.grants t c.in-Some.grant (sym c.in-Some.ensures.grant) in
    there_where _ _ c.held.ensures.none (held_here state.settings state.log inv.settled.sound.orderly t c.in-Some.grant.number number)

pub claim-seat-requires-clause-granted : goal.claim-seat-requires-clause-granted
claim-seat-requires-clause-granted g c =
    let inv = c.self.invariant in
    granted_once c.self.inside.state.log c.self.inside.grants.items c.self.inside.seats inv.grants inv.unclaimed c.want-want.result.transfer c.in-Some.grant (sym c.in-Some.ensures.grant)

pub claim-seat-requires-clause-unsplit : goal.claim-seat-requires-clause-unsplit
claim-seat-requires-clause-unsplit g c =
    let inv = c.self.invariant in
    granted_unsplit c.self.inside.state.log c.self.inside.grants.items c.self.inside.seats inv.seated inv.grants inv.unclaimed c.want-want.result.transfer c.in-Some.grant (sym c.in-Some.ensures.grant)

pub returns-in_default-clause-withdrawn : goal.returns-in_default-clause-withdrawn
returns-in_default-clause-withdrawn g c =
    let who : c.want-want.result.transfer ≡ c.args.ticket.wait.want.transfer = ap (λ (w : Want). w.transfer) c.want-want.ensures in
    let host_is = c.host.ensures ∙ ap (λ (v : HostShown g.row.S.Denot). v.host) c.self.view_is in
    let moment_is = c.moment-moment.ensures ∙ ap (λ (v : HostShown g.row.S.Denot). moment_at v.log c.args.now) c.self.view_is in
    c.tell-in_default.ensures.account ∙ withdraws_as c.args.self.now c.self.inside.grants.items (ap (λ (v : HostShown g.row.S.Denot). v.unclaimed) c.self.view_is) None c.want-want.result.transfer _ c.in_default.ensures.grant who c.host.result host_is c.moment-moment.result c.args.now moment_is c.args.pass.now

pub returns-in_default-clause-pass : goal.returns-in_default-clause-pass
returns-in_default-clause-pass g c =
    let state = c.self.inside.state in
    let held = c.self.inside.seats in
    let inv = c.self.invariant in
    let t = c.want-want.result.transfer in
    let did = Wrote (record { moment = c.moment-moment.result; event = Left t }) in
    let told = c.tell-in_default.ensures.account ∙ ap (λ (h : ℕ). tells h (Some did) c.args.pass.now) (c.host.ensures ∙ ap (λ (v : HostShown g.row.S.Denot). v.host) c.self.view_is) in
    let seated = seated_left state.log c.leave.new.self.log held _ t inv.seated c.leave.ensures.log c.leave.ensures.as_many_open c.leave.ensures.as_many_idle in
    let same = same_gone state.log c.leave.new.self.log held held inv.seated seated refl ∙ ap (λ (v : HostShown g.row.S.Denot). gone v.log) c.self.view_is in
    record {
      seats = search rules;
      account = accounts_told c.args.self.now c.leave.new.self.log c.args.pass.now c.tell-in_default.new.self (Some did) c.requires.enrolled told same;
    }

pub returns-clause-withdrawn : goal.returns-clause-withdrawn
returns-clause-withdrawn g c =
    let who : c.want-want.result.transfer ≡ c.args.ticket.wait.want.transfer = ap (λ (w : Want). w.transfer) c.want-want.ensures in
    let host_is = c.host.ensures ∙ ap (λ (v : HostShown g.row.S.Denot). v.host) c.self.view_is in
    let moment_is = c.moment-moment.ensures ∙ ap (λ (v : HostShown g.row.S.Denot). moment_at v.log c.args.now) c.self.view_is in
    c.spend-2.ensures.account ∙ withdraws_as c.args.self.now c.self.inside.grants.items (ap (λ (v : HostShown g.row.S.Denot). v.unclaimed) c.self.view_is) (Some c.in-Some.grant) c.want-want.result.transfer _ c.in-Some.ensures.grant who c.host.result host_is c.moment-moment.result c.args.now moment_is c.args.pass.now

pub returns-clause-pass : goal.returns-clause-pass
returns-clause-pass g c =
    let state = c.self.inside.state in
    let held = c.self.inside.seats in
    let inv = c.self.invariant in
    let t = c.want-want.result.transfer in
    let n = c.in-Some.grant.number in
    let once = granted_once state.log c.self.inside.grants.items held inv.grants inv.unclaimed t c.in-Some.grant (sym c.in-Some.ensures.grant) in
    let claimed = seated_claimed state.log held c.claim-seat.new.self n t inv.seated once c.claim-seat.ensures.seats in
    let pair_is = ap (λ (seat : LeaseSeats). seat.pair) c.claim-seat.ensures.seat in
    let more = gone_spent state.log c.claim-seat.new.self _ n t pair_is claimed c.take_back-start.ensures.leased c.take_back-start.new.self c.clear.new.self c.take_back-start.ensures.seats c.clear.ensures c.hand_on.new.state.log c.hand_on.new.seats c.hand_on.ensures.inside.seated c.hand_on.ensures.only.starts.ended in
    record {
      seats = search rules;
      account = accounts_spent c.args.self.now state.log c.hand_on.new.state.log (ap (λ (v : HostShown g.row.S.Denot). v.log) c.self.view_is) more c.args.pass.now _ _ (c.host.ensures ∙ ap (λ (v : HostShown g.row.S.Denot). v.host) c.self.view_is) _ _ c.requires.enrolled c.spend-2.ensures.account;
    }

pub hand_on-requires-clause-not_full : goal.hand_on-requires-clause-not_full
hand_on-requires-clause-not_full g c =
    let state = c.self.inside.state in
    let grants = c.self.inside.grants.items in
    let inv = c.self.invariant in
    let t = c.want-want.result.transfer in
    let held = c.unwrap-held.result in
    let it = known state.log t held (held_told state.log t _ _ c.unwrap-held.ensures c.held.ensures.some) in
    room_closed state.settings state.log grants inv.settled inv.grants state.streams t held.number it.number c.args.now Withdrawn c.close_held.new.self.settings c.close_held.ensures.same.settings c.moment-moment.result c.close_held.new.self.log c.close_held.ensures.log

pub hand_on-requires-clause-permits : goal.hand_on-requires-clause-permits
hand_on-requires-clause-permits g c =
    record {
      stands = search rules;
      part = c.requires.permits.part ∙ ap (λ (v : HostShown g.row.S.Denot). held_by v.log) (sym c.self.view_is) ∙ part_fewer c.self.inside.state.log c.close_held.new.self.log c.close_held.ensures.fewer_open c.close_held.ensures.as_many_idle;
    }

pub hand_on-requires-clause-inside : goal.hand_on-requires-clause-inside
hand_on-requires-clause-inside g c =
    let state = c.self.inside.state in
    let held = c.self.inside.seats in
    let inv = c.self.invariant in
    let t = c.want-want.result.transfer in
    let n = c.in-Some.grant.number in
    let once = granted_once state.log c.self.inside.grants.items held inv.grants inv.unclaimed t c.in-Some.grant (sym c.in-Some.ensures.grant) in
    let claimed = seated_claimed state.log held c.claim-seat.new.self n t inv.seated once c.claim-seat.ensures.seats in
    let pair_is = ap (λ (seat : LeaseSeats). seat.pair) c.claim-seat.ensures.seat in
    let ends = ends_closed state.log c.close_held.new.self.log t c.close_held.ensures.holders (ap start_count c.close_held.ensures.log) c.close_held.ensures.fewer_open c.close_held.ensures.as_many_idle in
    let grants = c.self.inside.grants.items in
    let is = sym c.in-Some.ensures.grant in
    let as_claimed = unclaimed_claimed state.log grants held c.claim-seat.new.self inv.grants inv.unclaimed t c.in-Some.grant is c.claim-seat.ensures.seats in
    let others = subst (λ gs. AreUnclaimed (grant_starts gs) c.claim-seat.new.self) (sym c.take_grant.ensures.grants) as_claimed in
    record {
      seated = seated_spent state.log c.claim-seat.new.self _ n t pair_is claimed c.take_back-start.ensures.leased c.take_back-start.new.self c.clear.new.self c.take_back-start.ensures.seats c.clear.ensures _ ends;
      unclaimed = let once = granted_once state.log grants held inv.grants inv.unclaimed t c.in-Some.grant is in let claimed = seated_claimed state.log held c.claim-seat.new.self n t inv.seated once c.claim-seat.ensures.seats in unclaimed_same (grant_starts c.take_grant.new.grants.items) c.claim-seat.new.self c.clear.new.self others (granted_spent state.log c.claim-seat.new.self _ n t pair_is claimed c.take_back-start.ensures.leased c.take_back-start.new.self c.clear.new.self c.take_back-start.ensures.seats c.clear.ensures);
      spare = omega (arith, c.self.invariant.spare, ap (λ log. length (waiting log)) c.close_held.ensures.log, c.close_held.ensures.booked, c.take_grant.ensures.len, c.take_grant.ensures.capacity);
    }

-- the host once the granted connection is closed, and its permit handed on
handed_on : (g : Over) (c : goal.Joined-grant g) → Settled c.self.inside.state.settings c.self.inside.state.log c.self.inside.grants.items c.self.inside.state.streams c.want-want.result.transfer c.unwrap-held.result.number c.hand_on.new.state.log c.hand_on.new.grants.items c.hand_on.new.state.streams
handed_on g c =
    let state = c.self.inside.state in
    let grants = c.self.inside.grants.items in
    let inv = c.self.invariant in
    let t = c.want-want.result.transfer in
    let held = c.unwrap-held.result in
    let it = known state.log t held (held_told state.log t _ _ c.unwrap-held.ensures c.held.ensures.some) in
    settled_closed state.settings state.log grants inv.settled inv.grants state.streams t held.number it.number c.args.now Withdrawn refl c.close_held.new.self.settings c.close_held.ensures.same.settings c.moment-moment.result c.moment-moment.ensures c.close_held.new.self.log c.close_held.ensures.log c.take_grant.new.grants.items c.take_grant.ensures.grants c.hand_on.new.state.log c.hand_on.ensures.log c.hand_on.new.grants.items c.hand_on.ensures.grants c.hand_on.new.state.streams (c.hand_on.ensures.streams ∙ c.close_held.ensures.streams)

pub invariant_of-self-2 : goal.invariant_of-self-2
invariant_of-self-2 g c =
    let grants = c.self.inside.grants.items in
    let inv = c.self.invariant in
    let settled = handed_on g c in
    record {
      count = c.hand_on.ensures.only.booked ∙ c.close_held.ensures.booked ∙ inv.count;
      bookings = booked_freed _ _ _ _ _ inv.grants settled.freed c.self.inside.bookings.items inv.bookings;
      settled = subst (λ settings. IsSoundAndQuiet settings c.hand_on.new.state.log) (sym (c.hand_on.ensures.only.same.settings ∙ c.close_held.ensures.same.settings)) settled.settled;
      grants = settled.freed.kept;
      spare = c.hand_on.ensures.inside.spare;
      seated = c.hand_on.ensures.inside.seated;
      unclaimed = c.hand_on.ensures.inside.unclaimed;
    }

pub returns-clause-ended : goal.returns-clause-ended
returns-clause-ended g c =
    let state = c.self.inside.state in
    let inv = c.self.invariant in
    let t = c.want-want.result.transfer in
    let held = c.unwrap-held.result in
    let it = known state.log t held (held_told state.log t _ _ c.unwrap-held.ensures c.held.ensures.some) in
    let who : t ≡ c.args.ticket.wait.want.transfer = ap (λ (w : Want). w.transfer) c.want-want.ensures in
    let named : after_withdraw state.settings state.log t c.args.now ≡ after_withdraw c.args.self.now.settings c.args.self.now.log c.args.ticket.wait.want.transfer c.args.now = ap (λ (n : ℕ). after_withdraw state.settings state.log n c.args.now) who ∙ ap (λ (v : HostShown g.row.S.Denot). after_withdraw v.settings v.log c.args.ticket.wait.want.transfer c.args.now) c.self.view_is in
    let settled = handed_on g c in
    let closed = gone_open held.number Withdrawn c.close_held.new.self.settings c.moment-moment.result state.log c.close_held.new.self.log c.close_held.ensures.log c.hand_on.new.state.log c.hand_on.ensures.log in
    record {
      valid = search rules;
      log = withdrawn_log state.settings state.log inv.settled.sound t held.number it.number c.args.now c.close_held.new.self.settings c.close_held.ensures.same.settings c.moment-moment.result c.moment-moment.ensures c.close_held.new.self.log c.close_held.ensures.log c.hand_on.new.state.log c.hand_on.ensures.log ∙ named;
      freed_is = freed_close state.settings state.log inv.settled t held.number it.number c.args.now c.close_held.new.self.settings c.close_held.ensures.same.settings c.moment-moment.result c.moment-moment.ensures c.close_held.new.self.log c.hand_on.new.state.log c.hand_on.ensures.log c.anyone_waits-freed.result c.anyone_waits-freed.ensures.yes c.anyone_waits-freed.ensures.no Withdrawn refl c.close_held.ensures.log
          ∙ ap (λ (v : HostShown g.row.S.Denot). is_freed v.log c.hand_on.new.state.log) c.self.view_is;
      streams = λ d still. settled.others d (apart_open c.hand_on.new.state.log held.number d closed still) still ∙ ap (λ (v : HostShown g.row.S.Denot). stream_of v.streams d) c.self.view_is;
      spends = spends_at _ _ _ _ _ c.self.view_is who (freed_spends _ _ _ _ _ _ _ _ _ _ _ _ _ _ _ _ _ settled.freed);
    }

pub returns-clause-host : goal.returns-clause-host
returns-clause-host g c =
    let settled = handed_on g c in
    record {
      same = search rules;
      booked = search rules;
      grew = grows_from _ _ _ (ap (λ (v : HostShown g.row.S.Denot). v.log) c.self.view_is) settled.grew;
    }

pub returns-clause-mark : goal.returns-clause-mark
returns-clause-mark g c =
    let state = c.self.inside.state in
    let settled = handed_on g c in
    unmarked_from state.settings c.args.self.now.settings c.hand_on.new.state.settings state.log c.args.self.now.log c.hand_on.new.state.log (c.hand_on.ensures.only.same.settings ∙ c.close_held.ensures.same.settings) (ap (λ (v : HostShown g.row.S.Denot). v.settings) c.self.view_is) (ap (λ (v : HostShown g.row.S.Denot). v.log) c.self.view_is) settled.mark

pub returns-in_default-clause-mark : goal.returns-in_default-clause-mark
returns-in_default-clause-mark g c =
    let state = c.self.inside.state in
    let inv = c.self.invariant in
    let t = c.want-want.result.transfer in
    let waits_here = waited g c in
    let is = left_log state.settings state.log t c.args.now c.moment-moment.result c.leave.new.self.log waits_here c.moment-moment.ensures c.leave.ensures.log in
    unmarked_from state.settings c.args.self.now.settings c.leave.new.self.settings state.log c.args.self.now.log c.leave.new.self.log c.leave.ensures.same.settings (ap (λ (v : HostShown g.row.S.Denot). v.settings) c.self.view_is) (ap (λ (v : HostShown g.row.S.Denot). v.log) c.self.view_is) (λ unmarked. ap (is_queued state.settings) is ∙ mark_withdraw state.settings state.log t c.args.now inv.settled unmarked)

pub returns-in_default-clause-settled : goal.returns-in_default-clause-settled
returns-in_default-clause-settled g c = (invariant_of-self g c).settled

pub returns-clause-settled : goal.returns-clause-settled
returns-clause-settled g c = (invariant_of-self-2 g c).settled
