use Rattle.std.proofs.Common.{◌≡◌, ℕ, false, length, refl, sym, ap, subst, ◌∙◌, arith, rules}
use Rattle.std.specs.Prelude.{◌==◌}
use Rattle.conn_log.specs.declared.entry.Cause.TheVariants.{Dropped}
use Rattle.conn_log.specs.Waiting.{waiting}
use Rattle.conn_log.specs.Starts.{start_count}
use Rattle.host_state.specs.Idle.{stream_of}
use Rattle.host_state.specs.Calls.{is_freed}
use Rattle.host_state.specs.Laws.{IsSoundAndQuiet}
use Rattle.bundle.specs.Lease.{HostShown}
use Rattle.host_state.specs.Counts.{held_by}
use Rattle.bundle.proofs.Answering.{known, there_where, held_told, number_told, freed_spends, spends_at}
use Rattle.host_state.proofs.Transfers.{held_here}
use Rattle.bundle.proofs.LeaseEnds.{ends_closed, lease_held, seated_spent, unclaimed_spent, grants_kept, gone_spent, apart_number, apart_transfer, apart_pair}
use Rattle.bundle.proofs.Settling.{Settled, settled_closed, room_closed, grows_from, unmarked_from}
use Rattle.bundle.proofs.Halfway.{booked_freed}
use Rattle.host_state.proofs.FreedPermits.{part_fewer, freed_close}
use Rattle.bundle.proofs.Accounting.{accounts_spent}
use Rattle.bundle.proofs.host.Bundle.close_leased.Given.{Over}
use Rattle.bundle.proofs.host.Bundle.close_leased.Goals as goal

pub unwrap-held-requires : goal.unwrap-held-requires
unwrap-held-requires g c =
    let state = c.self.inside.state in
    let inv = c.self.invariant in
    let t = c.transfer-transfer.result in
    let n = c.number-connection.result in
    let pair_is = apart_pair c.args.lease _ _ c.take_apart-used.ensures.used n t c.number-connection.ensures c.transfer-transfer.ensures _ c.take_apart-used.ensures.pair in
    there_where _ _ c.held.ensures.none (held_here state.settings state.log inv.settled.sound.orderly t n (lease_held state.log c.self.inside.seats _ n t pair_is inv.seated c.take_back-start.ensures.leased))

pub hand_on-requires-clause-not_full : goal.hand_on-requires-clause-not_full
hand_on-requires-clause-not_full g c =
    let state = c.self.inside.state in
    let inv = c.self.invariant in
    let held = c.unwrap-held.result in
    let it = known state.log c.transfer-transfer.result held (held_told state.log c.transfer-transfer.result _ _ c.unwrap-held.ensures c.held.ensures.some) in
    room_closed state.settings state.log c.self.inside.grants.items inv.settled inv.grants state.streams c.transfer-transfer.result held.number it.number c.args.now Dropped c.close_held.new.self.settings c.close_held.ensures.same.settings c.moment-moment.result c.close_held.new.self.log c.close_held.ensures.log

pub hand_on-requires-clause-permits : goal.hand_on-requires-clause-permits
hand_on-requires-clause-permits g c =
    record {
      stands = search rules;
      part = c.requires.permits.part ∙ ap (λ (v : HostShown g.row.S.Denot). held_by v.log) (sym c.self.view_is) ∙ part_fewer c.self.inside.state.log c.close_held.new.self.log c.close_held.ensures.fewer_open c.close_held.ensures.as_many_idle;
    }

pub hand_on-requires-clause-inside : goal.hand_on-requires-clause-inside
hand_on-requires-clause-inside g c =
    let state = c.self.inside.state in
    let t = c.transfer-transfer.result in
    let n = c.number-connection.result in
    let pair_is = apart_pair c.args.lease _ _ c.take_apart-used.ensures.used n t c.number-connection.ensures c.transfer-transfer.ensures _ c.take_apart-used.ensures.pair in
    let ends = ends_closed state.log c.close_held.new.self.log t c.close_held.ensures.holders (ap start_count c.close_held.ensures.log) c.close_held.ensures.fewer_open c.close_held.ensures.as_many_idle in
    let inv = c.self.invariant in
    record {
      seated = seated_spent state.log c.self.inside.seats _ n t pair_is c.self.invariant.seated c.take_back-start.ensures.leased c.take_back-start.new.self c.spend.new.seats c.take_back-start.ensures.seats c.spend.ensures.cleared _ ends;
      unclaimed = unclaimed_spent state.log c.self.inside.seats _ n t pair_is inv.seated c.take_back-start.ensures.leased c.take_back-start.new.self c.spend.new.seats c.take_back-start.ensures.seats c.spend.ensures.cleared c.self.inside.grants.items inv.unclaimed;
      spare = omega (arith, c.self.invariant.spare, ap (λ log. length (waiting log)) c.close_held.ensures.log, c.close_held.ensures.booked);
    }

-- the host once the connection is closed, and its permit handed on
handed_on : (g : Over) (c : goal.After-hand_on g) → Settled c.self.inside.state.settings c.self.inside.state.log c.self.inside.grants.items c.self.inside.state.streams c.transfer-transfer.result c.unwrap-held.result.number c.hand_on.new.state.log c.hand_on.new.grants.items c.hand_on.new.state.streams
handed_on g c =
    let state = c.self.inside.state in
    let inv = c.self.invariant in
    let held = c.unwrap-held.result in
    let it = known state.log c.transfer-transfer.result held (held_told state.log c.transfer-transfer.result _ _ c.unwrap-held.ensures c.held.ensures.some) in
    let n = c.number-connection.result in
    let pair_is = apart_pair c.args.lease _ _ c.take_apart-used.ensures.used n c.transfer-transfer.result c.number-connection.ensures c.transfer-transfer.ensures _ c.take_apart-used.ensures.pair in
    let left = grants_kept state.log c.self.inside.seats _ n c.transfer-transfer.result pair_is inv.seated c.take_back-start.ensures.leased c.self.inside.grants.items inv.grants inv.unclaimed in
    settled_closed state.settings state.log c.self.inside.grants.items inv.settled inv.grants state.streams c.transfer-transfer.result held.number it.number c.args.now Dropped refl c.close_held.new.self.settings c.close_held.ensures.same.settings c.moment-moment.result c.moment-moment.ensures c.close_held.new.self.log c.close_held.ensures.log c.self.inside.grants.items left c.hand_on.new.state.log c.hand_on.ensures.log c.hand_on.new.grants.items c.hand_on.ensures.grants c.hand_on.new.state.streams (c.hand_on.ensures.streams ∙ c.close_held.ensures.streams)

pub invariant_of-self : goal.invariant_of-self
invariant_of-self g c =
    let inv = c.self.invariant in
    let settled = handed_on g c in
    record {
      count = c.hand_on.ensures.only.booked ∙ c.close_held.ensures.booked ∙ inv.count;
      bookings = booked_freed _ _ _ _ _ inv.grants settled.freed c.self.inside.bookings.items inv.bookings;
      settled = subst (λ settings. IsSoundAndQuiet settings c.hand_on.new.state.log) (sym (c.hand_on.ensures.only.same.settings ∙ c.close_held.ensures.same.settings)) settled.settled;
      grants = settled.freed.kept;
      spare = c.hand_on.ensures.inside.spare;
      seated = c.hand_on.ensures.inside.seated;
      unclaimed = c.hand_on.ensures.inside.unclaimed;
    }

pub returns-clause-closed : goal.returns-clause-closed
returns-clause-closed g c =
    let held = c.unwrap-held.result in
    let n = c.number-connection.result in
    let settled = handed_on g c in
    record {
      known = search rules;
      log = search rules;
      streams = λ d other still. let apart : (held.number == d) ≡ false = ap (λ (n : ℕ). n == d) (number_told _ _ _ c.unwrap-held.ensures c.held.ensures.number ∙ apart_number c.args.lease _ _ c.take_apart-used.ensures.used _ _ c.number-connection.ensures c.transfer-transfer.ensures) ∙ other in settled.others d apart still ∙ ap (λ (v : HostShown g.row.S.Denot). stream_of v.streams d) c.self.view_is;
      spends = spends_at _ _ _ _ _ c.self.view_is (apart_transfer c.args.lease _ _ c.take_apart-used.ensures.used _ _ c.number-connection.ensures c.transfer-transfer.ensures) (freed_spends _ _ _ _ _ _ _ _ _ _ _ _ _ _ _ _ _ settled.freed);
    }

pub returns-clause-host : goal.returns-clause-host
returns-clause-host g c =
    let settled = handed_on g c in
    record {
      same = search rules;
      booked = search rules;
      grew = grows_from _ _ _ (ap (λ (v : HostShown g.row.S.Denot). v.log) c.self.view_is) settled.grew;
    }

pub returns-clause-freed : goal.returns-clause-freed
returns-clause-freed g c =
    let state = c.self.inside.state in
    let held = c.unwrap-held.result in
    let it = known state.log c.transfer-transfer.result held (held_told state.log c.transfer-transfer.result _ _ c.unwrap-held.ensures c.held.ensures.some) in
    freed_close state.settings state.log c.self.invariant.settled c.transfer-transfer.result held.number it.number c.args.now c.close_held.new.self.settings c.close_held.ensures.same.settings c.moment-moment.result c.moment-moment.ensures c.close_held.new.self.log c.hand_on.new.state.log c.hand_on.ensures.log c.anyone_waits-freed.result c.anyone_waits-freed.ensures.yes c.anyone_waits-freed.ensures.no Dropped refl c.close_held.ensures.log
    ∙ ap (λ (v : HostShown g.row.S.Denot). is_freed v.log c.hand_on.new.state.log) c.self.view_is

pub returns-clause-mark : goal.returns-clause-mark
returns-clause-mark g c =
    let state = c.self.inside.state in
    let settled = handed_on g c in
    unmarked_from state.settings c.args.self.now.settings c.hand_on.new.state.settings state.log c.args.self.now.log c.hand_on.new.state.log (c.hand_on.ensures.only.same.settings ∙ c.close_held.ensures.same.settings) (ap (λ (v : HostShown g.row.S.Denot). v.settings) c.self.view_is) (ap (λ (v : HostShown g.row.S.Denot). v.log) c.self.view_is) settled.mark

pub returns-clause-pass : goal.returns-clause-pass
returns-clause-pass g c =
    let state = c.self.inside.state in
    let t = c.transfer-transfer.result in
    let n = c.number-connection.result in
    let pair_is = apart_pair c.args.lease _ _ c.take_apart-used.ensures.used n t c.number-connection.ensures c.transfer-transfer.ensures _ c.take_apart-used.ensures.pair in
    let more = gone_spent state.log c.self.inside.seats _ n t pair_is c.self.invariant.seated c.take_back-start.ensures.leased c.take_back-start.new.self c.spend.new.seats c.take_back-start.ensures.seats c.spend.ensures.cleared c.hand_on.new.state.log c.hand_on.new.seats c.hand_on.ensures.inside.seated c.hand_on.ensures.only.starts.ended in
    record {
      seats = search rules;
      account = accounts_spent c.args.self.now state.log c.hand_on.new.state.log (ap (λ (v : HostShown g.row.S.Denot). v.log) c.self.view_is) more c.args.pass.now _ _ (c.host-host.ensures ∙ ap (λ (v : HostShown g.row.S.Denot). v.host) c.self.view_is) _ _ c.requires.enrolled c.spend.ensures.spent;
    }

pub returns-clause-settled : goal.returns-clause-settled
returns-clause-settled g c = (invariant_of-self g c).settled
