use Rattle.std.proofs.Common.{◌≡◌, ℕ, true, false, not, length, Some, refl, sym, ap, subst, ◌∙◌, arith, rules}
use Rattle.std.specs.Prelude.{◌==◌}
use mathlib.Core.Bool.{false≢true}
use Rattle.budget.specs.declared.permits.Try.TheVariants.{Got, Full, Contended}
use Rattle.budget.specs.Permits.{held, if_got, one_more_kept, one_less_open}
use Rattle.conn_log.specs.declared.entry.Cause.TheVariants.{CacheFull}
use Rattle.conn_log.specs.declared.entry.Event.TheVariants.{Returned, Closed}
use Rattle.conn_log.specs.Connections.{is_open, open_connections, idle_connections}
use Rattle.conn_log.specs.Waiting.{waiting}
use Rattle.conn_log.specs.Starts.{start_count}
use Rattle.host_state.specs.State.{HostState, ComesBackUnkept}
use Rattle.host_state.specs.Steps.{add, moment_at}
use Rattle.host_state.specs.Calls.{after_give_back, returned, becomes_idle, is_freed}
use Rattle.host_state.specs.Idle.{stream_of}
use Rattle.host_state.specs.Laws.{IsSoundAndQuiet}
use Rattle.bundle.specs.Lease.{HostShown, Leasing}
use Rattle.host_state.specs.Bookings.{AreBooked}
use Rattle.host_state.specs.Counts.{held_by}
use Rattle.bundle.specs.Grants.{grant_starts, GrantsKept}
use Rattle.bundle.specs.Seats.{SeatsShown, IsSeated, AreUnclaimed}
use Rattle.host_state.proofs.Transfers.{held_here}
use Rattle.bundle.proofs.Answering.{known, freed_spends, spends_at}
use Rattle.bundle.proofs.Settling.{Settled, settled_passed, settled_ended, alone_passed, room_ended, settled_unkept, passed_kept, ended_gone, grows_from, unmarked_from}
use Rattle.bundle.proofs.Halfway.{booked_freed}
use Rattle.host_state.proofs.FreedPermits.{part_fewer, freed_end}
use Rattle.bundle.proofs.Resting.{back_spent, passed_given_back, ended_given_back, would_rest, back_again, back_not_kept, back_closed, shown, same_lease, full_told, freed_one, if_none, if_some, if_there, passed_open, not_freed, passed_part, released_part}
use Rattle.bundle.proofs.LeaseEnds.{grants_kept, gone_spent, lease_held, ends_closed, ends_idle, handed_back, seated_spent, unclaimed_spent, tables_here, apart_number, apart_transfer, apart_pair}
use Rattle.bundle.proofs.Accounting.{accounts_spent}
use Rattle.bundle.proofs.Asking.{then_none, same_asks, recorded_as, would_stay}
use Rattle.host_state.specs.Asks.{recorded_forbids, may_stay}
use Rattle.bundle.proofs.host.Bundle.take_back.Given.{Over}
use Rattle.bundle.proofs.host.Bundle.take_back.Goals as goal

pub grant_to_head-requires-clause-alone : goal.grant_to_head-requires-clause-alone
grant_to_head-requires-clause-alone g c anyone =
    let state = c.self.inside.state in
    let back = c.in-Idle.ensures.idle in
    alone_passed state.settings state.log c.self.invariant.settled c.transfer-transfer.result c.in-Idle.held back.was_held c.moment-moment.result c.args.facts c.give_back-back.new.self.log back.log back.settled anyone

pub grant_to_head-requires-clause-inside : goal.grant_to_head-requires-clause-inside
grant_to_head-requires-clause-inside g c =
    let state = c.self.inside.state in
    let t = c.transfer-transfer.result in
    let n = c.number-number.result in
    let pair_is = apart_pair c.args.lease _ _ c.take_apart-used.ensures.used _ _ c.number-number.ensures c.transfer-transfer.ensures _ c.take_apart-used.ensures.pair in
    let back = c.in-Idle.ensures.idle in
    let ends = ends_idle state.log c.give_back-back.new.self.log t back.holders (ap start_count back.log) back.as_many_open back.more_idle in
    let inv = c.self.invariant in
    record {
      seated = seated_spent state.log c.self.inside.seats _ n t pair_is c.self.invariant.seated c.take_back-start.ensures.leased c.take_back-start.new.self c.spend_returned.new.seats c.take_back-start.ensures.seats c.spend_returned.ensures.cleared _ ends;
      unclaimed = unclaimed_spent state.log c.self.inside.seats _ n t pair_is inv.seated c.take_back-start.ensures.leased c.take_back-start.new.self c.spend_returned.new.seats c.take_back-start.ensures.seats c.spend_returned.ensures.cleared c.self.inside.grants.items inv.unclaimed;
      spare = omega (arith, inv.spare, ap (λ log. length (waiting log)) back.log, back.booked);
    }

-- the host once the connection is idle, or went to the first that waits
passed : (g : Over) (c : goal.After-grant_to_head g) → Settled c.self.inside.state.settings c.self.inside.state.log c.self.inside.grants.items c.self.inside.state.streams c.transfer-transfer.result c.in-Idle.held.number c.grant_to_head.new.state.log c.grant_to_head.new.grants.items c.grant_to_head.new.state.streams
passed g c =
    let state = c.self.inside.state in
    let back = c.in-Idle.ensures.idle in
    let inv = c.self.invariant in
    let held = c.in-Idle.held in
    let it = known state.log c.transfer-transfer.result held back.was_held in
    let pair_is = apart_pair c.args.lease _ _ c.take_apart-used.ensures.used _ _ c.number-number.ensures c.transfer-transfer.ensures _ c.take_apart-used.ensures.pair in
    let left = grants_kept state.log c.self.inside.seats _ c.number-number.result c.transfer-transfer.result pair_is inv.seated c.take_back-start.ensures.leased c.self.inside.grants.items inv.grants inv.unclaimed in
    settled_passed state.settings state.log c.self.inside.grants.items inv.settled inv.grants state.streams c.transfer-transfer.result held.number it.number c.args.now c.args.facts c.detach-stream.result c.give_back-back.new.self.settings back.same.settings c.moment-moment.result c.moment-moment.ensures c.give_back-back.new.self.log back.log back.settled c.give_back-back.new.self.streams back.kept c.self.inside.grants.items left c.grant_to_head.new.state.log c.grant_to_head.ensures.log c.grant_to_head.new.grants.items c.grant_to_head.ensures.grants c.grant_to_head.new.state.streams (λ d other still. c.grant_to_head.ensures.others d other still ∙ back.others d other)

pub invariant_of-self : goal.invariant_of-self
invariant_of-self g c =
    let back = c.in-Idle.ensures.idle in
    let inv = c.self.invariant in
    let settled = passed g c in
    record {
      count = c.grant_to_head.ensures.only.booked ∙ back.booked ∙ inv.count;
      bookings = booked_freed _ _ _ _ _ inv.grants settled.freed c.self.inside.bookings.items inv.bookings;
      settled = subst (λ settings. IsSoundAndQuiet settings c.grant_to_head.new.state.log) (sym (c.grant_to_head.ensures.only.same.settings ∙ back.same.settings)) settled.settled;
      grants = settled.freed.kept;
      spare = c.grant_to_head.ensures.inside.spare;
      seated = c.grant_to_head.ensures.inside.seated;
      unclaimed = c.grant_to_head.ensures.inside.unclaimed;
    }

pub returns-in-Idle-clause-returned : goal.returns-in-Idle-clause-returned
returns-in-Idle-clause-returned g c =
    let number_is = apart_number c.args.lease _ _ c.take_apart-used.ensures.used _ _ c.number-number.ensures c.transfer-transfer.ensures in
    let state = c.self.inside.state in
    let back = c.in-Idle.ensures.idle in
    let inv = c.self.invariant in
    let held = c.in-Idle.held in
    let it = known state.log c.transfer-transfer.result held back.was_held in
    let number = c.in-Idle.ensures.number ∙ number_is in
    let pair_is = apart_pair c.args.lease _ _ c.take_apart-used.ensures.used _ _ c.number-number.ensures c.transfer-transfer.ensures _ c.take_apart-used.ensures.pair in
    let left = grants_kept state.log c.self.inside.seats _ c.number-number.result c.transfer-transfer.result pair_is inv.seated c.take_back-start.ensures.leased c.self.inside.grants.items inv.grants inv.unclaimed in
    let settled = passed g c in
    let transfer_is = apart_transfer c.args.lease _ _ c.take_apart-used.ensures.used _ _ c.number-number.ensures c.transfer-transfer.ensures in
    record {
      stream = λ still. let kept = passed_kept state.settings state.log c.self.inside.grants.items inv.settled inv.grants state.streams c.transfer-transfer.result held.number it.number c.args.now c.detach-stream.result c.give_back-back.new.self.settings c.moment-moment.result c.give_back-back.new.self.log c.give_back-back.new.self.streams back.kept c.self.inside.grants.items left c.grant_to_head.new.state.log c.grant_to_head.ensures.log c.grant_to_head.new.grants.items c.grant_to_head.ensures.grants c.grant_to_head.new.state.streams (λ none. ap (λ (s : HostState g.row.S.Denot). s.streams) (c.grant_to_head.ensures.unchanged none)) (ap (is_open c.grant_to_head.new.state.log) number ∙ still) in ap (stream_of _) (sym number) ∙ kept ∙ sym c.detach-stream.ensures.detached ∙ ap (λ (l : Leasing g.row.S.Denot). l.stream) (sym c.take_apart-used.ensures.used);
      streams = λ d other still. let apart : (held.number == d) ≡ false = ap (λ (n : ℕ). n == d) (c.in-Idle.ensures.number ∙ number_is) ∙ other in settled.others d apart still ∙ ap (λ (v : HostShown g.row.S.Denot). stream_of v.streams d) c.self.view_is;
      spends = spends_at _ _ _ _ _ c.self.view_is transfer_is (freed_spends _ _ _ _ _ _ _ _ _ _ _ _ _ _ _ _ _ settled.freed);
    }

pub returns-in-Idle-clause-host : goal.returns-in-Idle-clause-host
returns-in-Idle-clause-host g c =
    let settled = passed g c in
    record {
      same = search rules;
      booked = search rules;
      grew = grows_from _ _ _ (ap (λ (v : HostShown g.row.S.Denot). v.log) c.self.view_is) settled.grew;
    }

pub hand_on-requires-clause-inside : goal.hand_on-requires-clause-inside
hand_on-requires-clause-inside g c =
    let state = c.self.inside.state in
    let t = c.transfer-transfer.result in
    let n = c.number-number.result in
    let pair_is = apart_pair c.args.lease _ _ c.take_apart-used.ensures.used _ _ c.number-number.ensures c.transfer-transfer.ensures _ c.take_apart-used.ensures.pair in
    let ended = c.in-Ended.ensures.closed in
    let ends = ends_closed state.log c.give_back-back.new.self.log t ended.holders (ap start_count ended.ends.log) ended.fewer_open ended.as_many_idle in
    let inv = c.self.invariant in
    record {
      seated = seated_spent state.log c.self.inside.seats _ n t pair_is c.self.invariant.seated c.take_back-start.ensures.leased c.take_back-start.new.self c.spend_returned-in-Ended.new.seats c.take_back-start.ensures.seats c.spend_returned-in-Ended.ensures.cleared _ ends;
      unclaimed = unclaimed_spent state.log c.self.inside.seats _ n t pair_is inv.seated c.take_back-start.ensures.leased c.take_back-start.new.self c.spend_returned-in-Ended.new.seats c.take_back-start.ensures.seats c.spend_returned-in-Ended.ensures.cleared c.self.inside.grants.items inv.unclaimed;
      spare = omega (arith, inv.spare, ap (λ log. length (waiting log)) ended.ends.log, ended.booked);
    }

pub hand_on-requires-clause-not_full : goal.hand_on-requires-clause-not_full
hand_on-requires-clause-not_full g c =
    let state = c.self.inside.state in
    let inv = c.self.invariant in
    let ended = c.in-Ended.ensures.closed in
    room_ended state.settings state.log c.self.inside.grants.items inv.settled inv.grants state.streams c.transfer-transfer.result c.number-number.result ended.was_held c.args.now c.args.facts ended.ends.cause c.give_back-back.new.self.settings ended.same.settings c.moment-moment.result c.give_back-back.new.self.log ended.ends.log

-- and once its use ended
use_ended : (g : Over) (c : goal.After-hand_on g) → Settled c.self.inside.state.settings c.self.inside.state.log c.self.inside.grants.items c.self.inside.state.streams c.transfer-transfer.result c.number-number.result c.hand_on.new.state.log c.hand_on.new.grants.items c.hand_on.new.state.streams
use_ended g c =
    let state = c.self.inside.state in
    let inv = c.self.invariant in
    let ended = c.in-Ended.ensures.closed in
    let pair_is = apart_pair c.args.lease _ _ c.take_apart-used.ensures.used _ _ c.number-number.ensures c.transfer-transfer.ensures _ c.take_apart-used.ensures.pair in
    let left = grants_kept state.log c.self.inside.seats _ c.number-number.result c.transfer-transfer.result pair_is inv.seated c.take_back-start.ensures.leased c.self.inside.grants.items inv.grants inv.unclaimed in
    settled_ended state.settings state.log c.self.inside.grants.items inv.settled inv.grants state.streams c.transfer-transfer.result c.number-number.result ended.was_held c.args.now c.args.facts ended.ends.cause c.give_back-back.new.self.settings ended.same.settings c.moment-moment.result c.moment-moment.ensures ended.ends.owes c.give_back-back.new.self.log ended.ends.log c.self.inside.grants.items left c.hand_on.new.state.log c.hand_on.ensures.log c.hand_on.new.grants.items c.hand_on.ensures.grants c.hand_on.new.state.streams (c.hand_on.ensures.streams ∙ ended.streams)

pub returns-in-Ended-clause-returned : goal.returns-in-Ended-clause-returned
returns-in-Ended-clause-returned g c =
    let number_is = apart_number c.args.lease _ _ c.take_apart-used.ensures.used _ _ c.number-number.ensures c.transfer-transfer.ensures in
    let number = number_is in
    let ended = c.in-Ended.ensures.closed in
    let settled = use_ended g c in
    let transfer_is = apart_transfer c.args.lease _ _ c.take_apart-used.ensures.used _ _ c.number-number.ensures c.transfer-transfer.ensures in
    record {
      stream = λ still. absurd (ended_gone c.number-number.result ended.ends.cause c.give_back-back.new.self.settings c.moment-moment.result _ c.give_back-back.new.self.log ended.ends.log c.hand_on.new.state.log c.hand_on.ensures.log (ap (is_open c.hand_on.new.state.log) number ∙ still));
      streams = λ d other still. let apart : (c.number-number.result == d) ≡ false = ap (λ (n : ℕ). n == d) number_is ∙ other in settled.others d apart still ∙ ap (λ (v : HostShown g.row.S.Denot). stream_of v.streams d) c.self.view_is;
      spends = spends_at _ _ _ _ _ c.self.view_is transfer_is (freed_spends _ _ _ _ _ _ _ _ _ _ _ _ _ _ _ _ _ settled.freed);
    }

pub returns-in-Ended-clause-host : goal.returns-in-Ended-clause-host
returns-in-Ended-clause-host g c =
    let settled = use_ended g c in
    record {
      same = search rules;
      booked = search rules;
      grew = grows_from _ _ _ (ap (λ (v : HostShown g.row.S.Denot). v.log) c.self.view_is) settled.grew;
    }

pub invariant_of-self-in-Ended : goal.invariant_of-self-in-Ended
invariant_of-self-in-Ended g c =
    let inv = c.self.invariant in
    let ended = c.in-Ended.ensures.closed in
    let settled = use_ended g c in
    record {
      count = c.hand_on.ensures.only.booked ∙ ended.booked ∙ inv.count;
      bookings = booked_freed _ _ _ _ _ inv.grants settled.freed c.self.inside.bookings.items inv.bookings;
      settled = subst (λ settings. IsSoundAndQuiet settings c.hand_on.new.state.log) (sym (c.hand_on.ensures.only.same.settings ∙ ended.same.settings)) settled.settled;
      grants = settled.freed.kept;
      spare = c.hand_on.ensures.inside.spare;
      seated = c.hand_on.ensures.inside.seated;
      unclaimed = c.hand_on.ensures.inside.unclaimed;
    }

-- what stays open may stay
may_stay_there : (g : Over) (c : goal.After-grant_to_head g) → may_stay c.self.inside.state.log c.take_apart-used.result.0.start c.args.facts ≡ true
may_stay_there g c =
    let state = c.self.inside.state in
    let back = c.in-Idle.ensures.idle in
    let held = c.in-Idle.held in
    let t = c.transfer-transfer.result in
    let n = c.number-number.result in
    let recorded = recorded_as state.log t n held c.in-Idle.ensures.number back.was_held c.in-Idle.ensures.known in
    would_stay state.log c.take_apart-used.result.0.start c.args.facts held.forbids_reuse (ap (λ (k : ℕ). recorded_forbids state.log k c.take_apart-used.result.0.start.number) (sym c.transfer-transfer.ensures) ∙ ap (recorded_forbids state.log t) (sym c.number-number.ensures) ∙ recorded) back.stays

pub returns-in-Idle-clause-permits : goal.returns-in-Idle-clause-permits
returns-in-Idle-clause-permits g c =
    let state = c.self.inside.state in
    let back = c.in-Idle.ensures.idle in
    let asked = c.ask_to_keep-asked in
    record {
      stands = search rules;
      stays = search rules;
      part = passed_part state.log c.give_back-back.new.self.log c.grant_to_head.new.state.log asked.result (g.P.Permits.held c.args.permits.now) (g.P.Permits.held asked.new.permits) (may_stay state.log c.take_apart-used.result.0.start c.args.facts) (ap waiting back.log) back.as_many_open back.more_idle c.grant_to_head.ensures.taken (λ none. ap (λ (s : HostState g.row.S.Denot). s.log) (c.grant_to_head.ensures.unchanged none)) (c.requires.permits.part ∙ ap (λ (v : HostShown g.row.S.Denot). held_by v.log) (sym c.self.view_is)) (may_stay_there g c) (if_none asked.result (ap g.P.Permits.held) asked.ensures.not_asked) asked.ensures.not_idle asked.ensures.nobody asked.ensures.held (c.may_keep.ensures.got_if_asked c.in-Idle.ensures.kept);
    }

pub returns-in-Idle-clause-mark : goal.returns-in-Idle-clause-mark
returns-in-Idle-clause-mark g c =
    let state = c.self.inside.state in
    let back = c.in-Idle.ensures.idle in
    let settled = passed g c in
    unmarked_from state.settings c.args.self.now.settings c.grant_to_head.new.state.settings state.log c.args.self.now.log c.grant_to_head.new.state.log (c.grant_to_head.ensures.only.same.settings ∙ back.same.settings) (ap (λ (v : HostShown g.row.S.Denot). v.settings) c.self.view_is) (ap (λ (v : HostShown g.row.S.Denot). v.log) c.self.view_is) settled.mark

pub hand_on-requires-clause-permits : goal.hand_on-requires-clause-permits
hand_on-requires-clause-permits g c =
    let asked = c.ask_to_keep-asked in
    let ended = c.in-Ended.ensures.closed in
    record {
      stands = search rules;
      part = released_part asked.result (g.P.Permits.held c.args.permits.now) (g.P.Permits.held asked.new.permits) (g.P.Permits.held c.release_unused.new.permits) (if_none asked.result (ap g.P.Permits.held) asked.ensures.not_asked) asked.ensures.held c.release_unused.ensures.released c.release_unused.ensures.not_asked c.release_unused.ensures.not_got
          ∙ c.requires.permits.part ∙ ap (λ (v : HostShown g.row.S.Denot). held_by v.log) (sym c.self.view_is) ∙ part_fewer c.self.inside.state.log c.give_back-back.new.self.log ended.fewer_open ended.as_many_idle;
    }

pub returns-in-Ended-clause-permits : goal.returns-in-Ended-clause-permits
returns-in-Ended-clause-permits g c =
    record {
      stands = search rules;
      stays = g.met.P.Permits.stays_on _ _ _ c.ask_to_keep-asked.ensures.stays (g.met.P.Permits.stays_on _ _ _ c.release_unused.ensures.stays c.hand_on.ensures.permits.stays);
      part = search rules;
    }

pub returns-in-Ended-clause-mark : goal.returns-in-Ended-clause-mark
returns-in-Ended-clause-mark g c =
    let state = c.self.inside.state in
    let ended = c.in-Ended.ensures.closed in
    let settled = use_ended g c in
    unmarked_from state.settings c.args.self.now.settings c.hand_on.new.state.settings state.log c.args.self.now.log c.hand_on.new.state.log (c.hand_on.ensures.only.same.settings ∙ ended.same.settings) (ap (λ (v : HostShown g.row.S.Denot). v.settings) c.self.view_is) (ap (λ (v : HostShown g.row.S.Denot). v.log) c.self.view_is) settled.mark

pub invariant_of-self-then-must_ask_again : goal.invariant_of-self-then-must_ask_again
invariant_of-self-then-must_ask_again g c =
    let state = c.self.inside.state in
    let grants = c.self.inside.grants.items in
    let inv = c.self.invariant in
    let same = c.in-Unkept.ensures.unkept_same.1 in
    let handed = handed_back c.self.inside.seats c.take_back-start.new.self _ c.take_back-start.ensures.seats inv.seated.none_back c.again.new.seats c.again.ensures.seats in
    let old = sym same in
    record {
      count = ap (λ (s : HostState g.row.S.Denot). s.booked) same ∙ inv.count;
      bookings = subst (λ (s : HostState g.row.S.Denot). AreBooked s.log c.self.inside.bookings.items) old inv.bookings;
      settled = subst (λ (s : HostState g.row.S.Denot). IsSoundAndQuiet s.settings s.log) old inv.settled;
      grants = subst (λ (s : HostState g.row.S.Denot). GrantsKept s.log grants) old inv.grants;
      spare = omega (arith, inv.spare, ap (λ (s : HostState g.row.S.Denot). s.booked) same, ap (λ (s : HostState g.row.S.Denot). length (waiting s.log)) same);
      seated = subst (λ (h : SeatsShown). IsSeated c.give_back-back.new.self.log h) (sym handed) (subst (λ (s : HostState g.row.S.Denot). IsSeated s.log c.self.inside.seats) old inv.seated);
      unclaimed = subst (λ (h : SeatsShown). AreUnclaimed (grant_starts grants) h) (sym handed) inv.unclaimed;
    }

pub invariant_of-self-then-not-close_if_full : goal.invariant_of-self-then-not-close_if_full
invariant_of-self-then-not-close_if_full g c =
    let state = c.self.inside.state in
    let grants = c.self.inside.grants.items in
    let inv = c.self.invariant in
    let same = c.in-Unkept.ensures.unkept_same.1 in
    let handed = handed_back c.self.inside.seats c.take_back-start.new.self _ c.take_back-start.ensures.seats inv.seated.none_back c.again-lease.new.seats c.again-lease.ensures.seats in
    let old = sym same in
    record {
      count = ap (λ (s : HostState g.row.S.Denot). s.booked) same ∙ inv.count;
      bookings = subst (λ (s : HostState g.row.S.Denot). AreBooked s.log c.self.inside.bookings.items) old inv.bookings;
      settled = subst (λ (s : HostState g.row.S.Denot). IsSoundAndQuiet s.settings s.log) old inv.settled;
      grants = subst (λ (s : HostState g.row.S.Denot). GrantsKept s.log grants) old inv.grants;
      spare = omega (arith, inv.spare, ap (λ (s : HostState g.row.S.Denot). s.booked) same, ap (λ (s : HostState g.row.S.Denot). length (waiting s.log)) same);
      seated = subst (λ (h : SeatsShown). IsSeated c.give_back-back.new.self.log h) (sym handed) (subst (λ (s : HostState g.row.S.Denot). IsSeated s.log c.self.inside.seats) old inv.seated);
      unclaimed = subst (λ (h : SeatsShown). AreUnclaimed (grant_starts grants) h) (sym handed) inv.unclaimed;
    }

pub returns-then-must_ask_again-clause-unended : goal.returns-then-must_ask_again-clause-unended
returns-then-must_ask_again-clause-unended g c =
    let state = c.self.inside.state in
    let same = c.in-Unkept.ensures.unkept_same.1 in
    let handed = handed_back c.self.inside.seats c.take_back-start.new.self _ c.take_back-start.ensures.seats c.self.invariant.seated.none_back c.again.new.seats c.again.ensures.seats in
    (ap (λ (s : HostState g.row.S.Denot). shown s c.self.inside.grants.items c.self.inside.bookings.items c.again.new.seats.tables) same ∙ ap (λ (h : SeatsShown). shown state c.self.inside.grants.items c.self.inside.bookings.items h.tables) handed ∙ c.self.view_is, refl)

pub returns-then-not-close_if_full-clause-unended : goal.returns-then-not-close_if_full-clause-unended
returns-then-not-close_if_full-clause-unended g c =
    let state = c.self.inside.state in
    let same = c.in-Unkept.ensures.unkept_same.1 in
    let handed = handed_back c.self.inside.seats c.take_back-start.new.self _ c.take_back-start.ensures.seats c.self.invariant.seated.none_back c.again-lease.new.seats c.again-lease.ensures.seats in
    (ap (λ (s : HostState g.row.S.Denot). shown s c.self.inside.grants.items c.self.inside.bookings.items c.again-lease.new.seats.tables) same ∙ ap (λ (h : SeatsShown). shown state c.self.inside.grants.items c.self.inside.bookings.items h.tables) handed ∙ c.self.view_is, refl)

pub unreachable-requires : goal.unreachable-requires
unreachable-requires g c =
    let state = c.self.inside.state in
    let inv = c.self.invariant in
    let t = c.transfer-transfer.result in
    let n = c.number-number.result in
    let pair_is = apart_pair c.args.lease _ _ c.take_apart-used.ensures.used _ _ c.number-number.ensures c.transfer-transfer.ensures _ c.take_apart-used.ensures.pair in
    let held = lease_held state.log c.self.inside.seats _ n t pair_is inv.seated c.take_back-start.ensures.leased in
    false≢true (sym c.in-Strange.ensures.strange ∙ held_here state.settings state.log inv.settled.sound.orderly t n held)

-- and once it was closed since the cache is full
closed_out : (g : Over) (c : goal.After-release_open g) → ComesBackUnkept c.self.inside.state c.give_back_to_close.new.self c.transfer-transfer.result c.number-number.result c.args.facts c.moment-moment.result
closed_out g c = subst (λ (s : HostState g.row.S.Denot). ComesBackUnkept s c.give_back_to_close.new.self c.transfer-transfer.result c.number-number.result c.args.facts c.moment-moment.result) c.in-Unkept.ensures.unkept_same.1 c.give_back_to_close.ensures

seated_out : (g : Over) (c : goal.After-release_open g) → IsSeated c.give_back_to_close.new.self.log c.spend_returned-in-Unkept.new.seats
seated_out g c =
    let log = c.self.inside.state.log in
    let t = c.transfer-transfer.result in
    let closed = closed_out g c in
    let ends = ends_closed log c.give_back_to_close.new.self.log t closed.holders (ap start_count closed.log) closed.fewer_open closed.as_many_idle in
    let pair_is = apart_pair c.args.lease _ _ c.take_apart-used.ensures.used _ _ c.number-number.ensures c.transfer-transfer.ensures _ c.take_apart-used.ensures.pair in
    seated_spent log c.self.inside.seats _ c.number-number.result t pair_is c.self.invariant.seated c.take_back-start.ensures.leased c.take_back-start.new.self c.spend_returned-in-Unkept.new.seats c.take_back-start.ensures.seats c.spend_returned-in-Unkept.ensures.cleared _ ends

not_kept : (g : Over) (c : goal.After-release_open g) → Settled c.self.inside.state.settings c.self.inside.state.log c.self.inside.grants.items c.self.inside.state.streams c.transfer-transfer.result c.number-number.result c.give_back_to_close.new.self.log c.self.inside.grants.items c.give_back_to_close.new.self.streams
not_kept g c =
    let state = c.self.inside.state in
    let inv = c.self.invariant in
    let asked = c.ask_to_keep-asked in
    let number = c.number-number.result in
    let not_given = c.may_keep.ensures.asked_not_got c.in-Unkept.ensures.unkept.0 in
    let would = c.in-Unkept.ensures.unkept.1 in
    let idle = would_rest state.settings state inv.settled.sound c.transfer-transfer.result number c.args.facts c.args.now would (if_there asked.result not_given.0 asked.ensures.nobody) in
    let it = known state.log c.transfer-transfer.result would.held would.was_held in
    let mine = it.number ∙ ap (λ (k : ℕ). Some k) would.number in
    let closed = closed_out g c in
    let pair_is = apart_pair c.args.lease _ _ c.take_apart-used.ensures.used _ _ c.number-number.ensures c.transfer-transfer.ensures _ c.take_apart-used.ensures.pair in
    let left = grants_kept state.log c.self.inside.seats _ number c.transfer-transfer.result pair_is inv.seated c.take_back-start.ensures.leased c.self.inside.grants.items inv.grants inv.unclaimed in
    settled_unkept state.settings state.log c.self.inside.grants.items inv.settled inv.grants state.streams c.transfer-transfer.result number mine c.args.now c.args.facts idle c.moment-moment.result c.moment-moment.ensures c.self.inside.grants.items left c.give_back_to_close.new.self.log closed.log c.give_back_to_close.new.self.streams closed.streams

pub invariant_of-self-in-Unkept : goal.invariant_of-self-in-Unkept
invariant_of-self-in-Unkept g c =
    let state = c.self.inside.state in
    let inv = c.self.invariant in
    let settled = not_kept g c in
    let closed = closed_out g c in
    let pair_is = apart_pair c.args.lease _ _ c.take_apart-used.ensures.used _ _ c.number-number.ensures c.transfer-transfer.ensures _ c.take_apart-used.ensures.pair in
    record {
      count = closed.booked ∙ inv.count;
      bookings = booked_freed _ _ _ _ _ inv.grants settled.freed c.self.inside.bookings.items inv.bookings;
      settled = subst (λ settings. IsSoundAndQuiet settings c.give_back_to_close.new.self.log) (sym closed.same.settings) settled.settled;
      grants = settled.freed.kept;
      spare = omega (arith, inv.spare, ap (λ log. length (waiting log)) closed.log, closed.booked);
      seated = seated_out g c;
      unclaimed = unclaimed_spent state.log c.self.inside.seats _ c.number-number.result c.transfer-transfer.result pair_is inv.seated c.take_back-start.ensures.leased c.take_back-start.new.self c.spend_returned-in-Unkept.new.seats c.take_back-start.ensures.seats c.spend_returned-in-Unkept.ensures.cleared c.self.inside.grants.items inv.unclaimed;
    }

pub returns-else-not-close_if_full-clause-returned : goal.returns-else-not-close_if_full-clause-returned
returns-else-not-close_if_full-clause-returned g c =
    let number_is = apart_number c.args.lease _ _ c.take_apart-used.ensures.used _ _ c.number-number.ensures c.transfer-transfer.ensures in
    let settled = not_kept g c in
    let transfer_is = apart_transfer c.args.lease _ _ c.take_apart-used.ensures.used _ _ c.number-number.ensures c.transfer-transfer.ensures in
    record {
      stream = search rules;
      streams = λ d other still. settled.others d (ap (λ (n : ℕ). n == d) number_is ∙ other) still ∙ ap (λ (v : HostShown g.row.S.Denot). stream_of v.streams d) c.self.view_is;
      spends = spends_at _ _ _ _ _ c.self.view_is transfer_is (freed_spends _ _ _ _ _ _ _ _ _ _ _ _ _ _ _ _ _ settled.freed);
    }

pub returns-else-not-close_if_full-clause-host : goal.returns-else-not-close_if_full-clause-host
returns-else-not-close_if_full-clause-host g c =
    let settled = not_kept g c in
    record {
      same = search rules;
      booked = search rules;
      grew = grows_from _ _ _ (ap (λ (v : HostShown g.row.S.Denot). v.log) c.self.view_is) settled.grew;
    }

pub returns-in-Idle-clause-pass : goal.returns-in-Idle-clause-pass
returns-in-Idle-clause-pass g c =
    let state = c.self.inside.state in
    let pair_is = apart_pair c.args.lease _ _ c.take_apart-used.ensures.used _ _ c.number-number.ensures c.transfer-transfer.ensures _ c.take_apart-used.ensures.pair in
    let more = gone_spent state.log c.self.inside.seats _ c.number-number.result c.transfer-transfer.result pair_is c.self.invariant.seated c.take_back-start.ensures.leased c.take_back-start.new.self c.spend_returned.new.seats c.take_back-start.ensures.seats c.spend_returned.ensures.cleared c.grant_to_head.new.state.log c.grant_to_head.new.seats c.grant_to_head.ensures.inside.seated c.grant_to_head.ensures.only.starts.ended in
    record {
      seats = search rules;
      account = accounts_spent c.args.self.now state.log c.grant_to_head.new.state.log (ap (λ (v : HostShown g.row.S.Denot). v.log) c.self.view_is) more c.args.pass.now _ _ (c.host-host.ensures ∙ c.in-Idle.ensures.idle.same.host ∙ ap (λ (v : HostShown g.row.S.Denot). v.host) c.self.view_is) _ _ c.requires.enrolled c.spend_returned.ensures.spent;
    }

pub returns-in-Ended-clause-pass : goal.returns-in-Ended-clause-pass
returns-in-Ended-clause-pass g c =
    let state = c.self.inside.state in
    let pair_is = apart_pair c.args.lease _ _ c.take_apart-used.ensures.used _ _ c.number-number.ensures c.transfer-transfer.ensures _ c.take_apart-used.ensures.pair in
    let more = gone_spent state.log c.self.inside.seats _ c.number-number.result c.transfer-transfer.result pair_is c.self.invariant.seated c.take_back-start.ensures.leased c.take_back-start.new.self c.spend_returned-in-Ended.new.seats c.take_back-start.ensures.seats c.spend_returned-in-Ended.ensures.cleared c.hand_on.new.state.log c.hand_on.new.seats c.hand_on.ensures.inside.seated c.hand_on.ensures.only.starts.ended in
    record {
      seats = search rules;
      account = accounts_spent c.args.self.now state.log c.hand_on.new.state.log (ap (λ (v : HostShown g.row.S.Denot). v.log) c.self.view_is) more c.args.pass.now _ _ (c.host-host-in-Ended.ensures ∙ c.in-Ended.ensures.closed.same.host ∙ ap (λ (v : HostShown g.row.S.Denot). v.host) c.self.view_is) _ _ c.requires.enrolled c.spend_returned-in-Ended.ensures.spent;
    }

pub returns-else-not-close_if_full-clause-pass : goal.returns-else-not-close_if_full-clause-pass
returns-else-not-close_if_full-clause-pass g c =
    let state = c.self.inside.state in
    let pair_is = apart_pair c.args.lease _ _ c.take_apart-used.ensures.used _ _ c.number-number.ensures c.transfer-transfer.ensures _ c.take_apart-used.ensures.pair in
    let more = gone_spent state.log c.self.inside.seats _ c.number-number.result c.transfer-transfer.result pair_is c.self.invariant.seated c.take_back-start.ensures.leased c.take_back-start.new.self c.spend_returned-in-Unkept.new.seats c.take_back-start.ensures.seats c.spend_returned-in-Unkept.ensures.cleared c.give_back_to_close.new.self.log c.spend_returned-in-Unkept.new.seats (seated_out g c) refl in
    record {
      seats = search rules;
      account = accounts_spent c.args.self.now state.log c.give_back_to_close.new.self.log (ap (λ (v : HostShown g.row.S.Denot). v.log) c.self.view_is) more c.args.pass.now _ _ (c.host-host-in-Unkept.ensures ∙ ap (λ (v : HostState g.row.S.Denot). v.host) c.in-Unkept.ensures.unkept_same.1 ∙ ap (λ (v : HostShown g.row.S.Denot). v.host) c.self.view_is) _ _ c.requires.enrolled c.spend_returned-in-Unkept.ensures.spent;
    }

pub returns-else-not-close_if_full-clause-permits : goal.returns-else-not-close_if_full-clause-permits
returns-else-not-close_if_full-clause-permits g c =
    let asked = c.ask_to_keep-asked in
    let not_given = c.may_keep.ensures.asked_not_got c.in-Unkept.ensures.unkept.0 in
    let full = full_told asked.result not_given.0 not_given.1 (c.must_ask_again.ensures.not_contended c.if-must_ask_again.false) in
    let as_before = if_some asked.result Full (λ told. g.P.Permits.held asked.new.permits ≡ if_got told one_more_kept (g.P.Permits.held c.args.permits.now)) full asked.ensures.held in
    let closed = closed_out g c in
    let after = c.give_back_to_close.new.self.log in
    let held_is = as_before ∙ c.requires.permits.part ∙ ap (λ (v : HostShown g.row.S.Denot). held_by v.log) (sym c.self.view_is) ∙ part_fewer c.self.inside.state.log after closed.fewer_open closed.as_many_idle in
    record {
      stands = search rules;
      stays = g.met.P.Permits.stays_on _ _ _ c.ask_to_keep-asked.ensures.stays c.release_open.ensures.stays;
      part = c.release_open.ensures.held ∙ ap one_less_open held_is ∙ ap (λ (n : ℕ). held n (length (idle_connections after))) (omega arith);
    }

-- the log that it leaves
pub returns-in-Idle-clause-settled : goal.returns-in-Idle-clause-settled
returns-in-Idle-clause-settled g c = (invariant_of-self g c).settled

pub returns-in-Ended-clause-settled : goal.returns-in-Ended-clause-settled
returns-in-Ended-clause-settled g c = (invariant_of-self-in-Ended g c).settled

pub returns-then-must_ask_again-clause-settled : goal.returns-then-must_ask_again-clause-settled
returns-then-must_ask_again-clause-settled g c = (invariant_of-self-then-must_ask_again g c).settled

pub returns-then-not-close_if_full-clause-settled : goal.returns-then-not-close_if_full-clause-settled
returns-then-not-close_if_full-clause-settled g c = (invariant_of-self-then-not-close_if_full g c).settled

pub returns-else-not-close_if_full-clause-settled : goal.returns-else-not-close_if_full-clause-settled
returns-else-not-close_if_full-clause-settled g c = (invariant_of-self-in-Unkept g c).settled

-- how often the budget was asked
pub returns-in-Idle-clause-answer : goal.returns-in-Idle-clause-answer
returns-in-Idle-clause-answer g c =
    let number_is = apart_number c.args.lease _ _ c.take_apart-used.ensures.used _ _ c.number-number.ensures c.transfer-transfer.ensures in
    let state = c.self.inside.state in
    let back = c.in-Idle.ensures.idle in
    let held = c.in-Idle.held in
    let log_is = passed_given_back state.settings state.log held.number c.args.facts c.args.now c.give_back-back.new.self.settings back.same.settings c.moment-moment.result c.moment-moment.ensures c.give_back-back.new.self.log back.log back.settled c.grant_to_head.new.state.log c.grant_to_head.ensures.log
    ∙ ap (λ (n : ℕ). after_give_back state.settings state.log n c.args.facts c.args.now) (c.in-Idle.ensures.number ∙ number_is)
    ∙ ap (λ (v : HostShown g.row.S.Denot). after_give_back v.settings v.log c.args.lease.start.number c.args.facts c.args.now) c.self.view_is in
    let opens = passed_open c.give_back-back.new.self.log c.grant_to_head.new.state.log c.grant_to_head.ensures.taken (λ none. ap (λ (s : HostState g.row.S.Denot). s.log) (c.grant_to_head.ensures.unchanged none)) ∙ back.as_many_open ∙ ap (λ (v : HostShown g.row.S.Denot). length (open_connections v.log)) c.self.view_is in
    record {
      known = search rules;
      told = (Got, g.met.P.Permits.not_asked_to_keep _ _ c.ask_to_keep-asked.ensures.stays, back_spent c.args.self.now (shown c.grant_to_head.new.state c.grant_to_head.new.grants.items c.self.inside.bookings.items c.grant_to_head.new.seats.tables) c.args.lease c.args.facts c.args.now c.args.close_if_full false log_is (not_freed c.args.self.now.log c.grant_to_head.new.state.log opens));
      back_as = search rules;
      asked = subst (g.P.Permits.asked c.args.permits.now c.ask_to_keep-asked.new.permits 0) (same_asks c.args.self.now c.self.inside.state.log c.args.lease _ _ c.args.facts (ap (λ (v : HostShown g.row.S.Denot). v.log) c.self.view_is) c.take_apart-used.ensures.used) c.ask_to_keep-asked.ensures.asked;
    }

-- what comes back
pub returns-then-must_ask_again-clause-answer : goal.returns-then-must_ask_again-clause-answer
returns-then-must_ask_again-clause-answer g c =
    let number_is = apart_number c.args.lease _ _ c.take_apart-used.ensures.used _ _ c.number-number.ensures c.transfer-transfer.ensures in
    let state = c.self.inside.state in
    let inv = c.self.invariant in
    let asked = c.ask_to_keep-asked in
    let number = c.number-number.result in
    let not_given = c.may_keep.ensures.asked_not_got c.in-Unkept.ensures.unkept.0 in
    let same = c.in-Unkept.ensures.unkept_same.1 in
    let idle = would_rest state.settings state inv.settled.sound c.transfer-transfer.result number c.args.facts c.args.now c.in-Unkept.ensures.unkept.1 (if_there asked.result not_given.0 asked.ensures.nobody) in
    let idle_here = ap (λ (v : HostShown g.row.S.Denot). becomes_idle v.log c.args.lease.start.number c.args.facts c.args.now) (sym c.self.view_is) ∙ ap (λ (n : ℕ). becomes_idle state.log n c.args.facts c.args.now) (sym number_is) ∙ idle in
    let handed = handed_back c.self.inside.seats c.take_back-start.new.self _ c.take_back-start.ensures.seats inv.seated.none_back c.again.new.seats c.again.ensures.seats in
    let unchanged = ap (λ (s : HostState g.row.S.Denot). shown s c.self.inside.grants.items c.self.inside.bookings.items c.again.new.seats.tables) same ∙ ap (λ (h : SeatsShown). shown state c.self.inside.grants.items c.self.inside.bookings.items h.tables) handed ∙ c.self.view_is in
    let now_here = tables_here c.args.lease _ _ c.take_apart-used.ensures.used c.self.inside.seats c.take_back-start.new.self _ _ c.requires.here (ap (λ (v : HostShown g.row.S.Denot). v.tables) c.self.view_is) c.take_back-start.ensures.seats in
    let as_it_was = same_lease c.args.lease c.again.result _ _ _ _ _ _ c.take_apart-used.ensures.used c.detach-stream.ensures.detached c.detach-stream.ensures.rest c.again.ensures.lease now_here c.in-Unkept.ensures.unkept_same.0 in
    let missed = c.must_ask_again.ensures.contended c.if-must_ask_again.true in
    record {
      known = search rules;
      told = (Contended, if_some asked.result Contended (λ told. g.P.Permits.keeping c.args.permits.now asked.new.permits told) missed asked.ensures.told, back_again c.args.self.now (shown c.give_back-back.new.self c.self.inside.grants.items c.self.inside.bookings.items c.again.new.seats.tables) c.args.lease c.args.facts c.args.now idle_here c.args.close_if_full _ as_it_was unchanged);
      back_as = as_it_was;
      asked = subst (g.P.Permits.asked c.args.permits.now c.ask_to_keep-asked.new.permits 0) (same_asks c.args.self.now c.self.inside.state.log c.args.lease _ _ c.args.facts (ap (λ (v : HostShown g.row.S.Denot). v.log) c.self.view_is) c.take_apart-used.ensures.used) c.ask_to_keep-asked.ensures.asked;
    }

pub returns-then-not-close_if_full-clause-answer : goal.returns-then-not-close_if_full-clause-answer
returns-then-not-close_if_full-clause-answer g c =
    let number_is = apart_number c.args.lease _ _ c.take_apart-used.ensures.used _ _ c.number-number.ensures c.transfer-transfer.ensures in
    let state = c.self.inside.state in
    let inv = c.self.invariant in
    let asked = c.ask_to_keep-asked in
    let number = c.number-number.result in
    let not_given = c.may_keep.ensures.asked_not_got c.in-Unkept.ensures.unkept.0 in
    let same = c.in-Unkept.ensures.unkept_same.1 in
    let idle = would_rest state.settings state inv.settled.sound c.transfer-transfer.result number c.args.facts c.args.now c.in-Unkept.ensures.unkept.1 (if_there asked.result not_given.0 asked.ensures.nobody) in
    let idle_here = ap (λ (v : HostShown g.row.S.Denot). becomes_idle v.log c.args.lease.start.number c.args.facts c.args.now) (sym c.self.view_is) ∙ ap (λ (n : ℕ). becomes_idle state.log n c.args.facts c.args.now) (sym number_is) ∙ idle in
    let handed = handed_back c.self.inside.seats c.take_back-start.new.self _ c.take_back-start.ensures.seats inv.seated.none_back c.again-lease.new.seats c.again-lease.ensures.seats in
    let unchanged = ap (λ (s : HostState g.row.S.Denot). shown s c.self.inside.grants.items c.self.inside.bookings.items c.again-lease.new.seats.tables) same ∙ ap (λ (h : SeatsShown). shown state c.self.inside.grants.items c.self.inside.bookings.items h.tables) handed ∙ c.self.view_is in
    let now_here = tables_here c.args.lease _ _ c.take_apart-used.ensures.used c.self.inside.seats c.take_back-start.new.self _ _ c.requires.here (ap (λ (v : HostShown g.row.S.Denot). v.tables) c.self.view_is) c.take_back-start.ensures.seats in
    let as_it_was = c.of.ensures ∙ same_lease c.args.lease c.again-lease.result _ _ _ _ _ _ c.take_apart-used.ensures.used c.detach-stream.ensures.detached c.detach-stream.ensures.rest c.again-lease.ensures.lease now_here c.in-Unkept.ensures.unkept_same.0 in
    let full = full_told asked.result not_given.0 not_given.1 (c.must_ask_again.ensures.not_contended c.if-must_ask_again.false) in
    record {
      known = search rules;
      told = (Full, if_some asked.result Full (λ told. g.P.Permits.keeping c.args.permits.now asked.new.permits told) full asked.ensures.told, back_not_kept c.args.self.now (shown c.give_back-back.new.self c.self.inside.grants.items c.self.inside.bookings.items c.again-lease.new.seats.tables) c.args.lease c.args.facts c.args.now idle_here c.args.close_if_full c.if-not-close_if_full.true _ as_it_was unchanged);
      back_as = (c.if-not-close_if_full.true, as_it_was);
      asked = subst (g.P.Permits.asked c.args.permits.now c.ask_to_keep-asked.new.permits 0) (same_asks c.args.self.now c.self.inside.state.log c.args.lease _ _ c.args.facts (ap (λ (v : HostShown g.row.S.Denot). v.log) c.self.view_is) c.take_apart-used.ensures.used) c.ask_to_keep-asked.ensures.asked;
    }

pub returns-in-Ended-clause-answer : goal.returns-in-Ended-clause-answer
returns-in-Ended-clause-answer g c =
    let number_is = apart_number c.args.lease _ _ c.take_apart-used.ensures.used _ _ c.number-number.ensures c.transfer-transfer.ensures in
    let state = c.self.inside.state in
    let ended = c.in-Ended.ensures.closed in
    let log_is = ended_given_back state.settings state.log c.number-number.result c.args.facts c.args.now c.give_back-back.new.self.settings ended.same.settings c.moment-moment.result c.moment-moment.ensures ended.ends.cause ended.ends.owes c.give_back-back.new.self.log ended.ends.log c.hand_on.new.state.log c.hand_on.ensures.log
    ∙ ap (λ (n : ℕ). after_give_back state.settings state.log n c.args.facts c.args.now) number_is
    ∙ ap (λ (v : HostShown g.row.S.Denot). after_give_back v.settings v.log c.args.lease.start.number c.args.facts c.args.now) c.self.view_is in
    let freed_is = freed_end state.settings state.log c.self.invariant.settled c.transfer-transfer.result c.number-number.result ended.was_held c.args.now c.give_back-back.new.self.settings ended.same.settings c.moment-moment.result c.moment-moment.ensures c.give_back-back.new.self.log c.hand_on.new.state.log c.hand_on.ensures.log c.anyone_waits-freed.result c.anyone_waits-freed.ensures.yes c.anyone_waits-freed.ensures.no c.args.facts ended.ends.cause ended.ends.owes ended.ends.log
    ∙ ap (λ (v : HostShown g.row.S.Denot). is_freed v.log c.hand_on.new.state.log) c.self.view_is in
    let stays = g.met.P.Permits.stays_on _ _ _ c.ask_to_keep-asked.ensures.stays (g.met.P.Permits.stays_on _ _ _ c.release_unused.ensures.stays c.hand_on.ensures.permits.stays) in
    let later = g.met.P.Permits.asked_on _ _ _ 0 0 0 0 c.release_unused.ensures.unasked c.hand_on.ensures.unasked in
    record {
      known = search rules;
      told = (Got, g.met.P.Permits.not_asked_to_keep _ _ stays, back_spent c.args.self.now (shown c.hand_on.new.state c.hand_on.new.grants.items c.self.inside.bookings.items c.hand_on.new.seats.tables) c.args.lease c.args.facts c.args.now c.args.close_if_full (not c.anyone_waits-freed.result) log_is freed_is);
      back_as = search rules;
      asked = subst (g.P.Permits.asked c.args.permits.now c.hand_on.new.permits 0) (same_asks c.args.self.now c.self.inside.state.log c.args.lease _ _ c.args.facts (ap (λ (v : HostShown g.row.S.Denot). v.log) c.self.view_is) c.take_apart-used.ensures.used) (then_none g.P.Permits.asked g.met.P.Permits.asked_on _ _ _ _ _ c.ask_to_keep-asked.ensures.asked later);
    }

pub returns-else-not-close_if_full-clause-answer : goal.returns-else-not-close_if_full-clause-answer
returns-else-not-close_if_full-clause-answer g c =
    let number_is = apart_number c.args.lease _ _ c.take_apart-used.ensures.used _ _ c.number-number.ensures c.transfer-transfer.ensures in
    let state = c.self.inside.state in
    let inv = c.self.invariant in
    let asked = c.ask_to_keep-asked in
    let number = c.number-number.result in
    let not_given = c.may_keep.ensures.asked_not_got c.in-Unkept.ensures.unkept.0 in
    let closed = closed_out g c in
    let idle = would_rest state.settings state inv.settled.sound c.transfer-transfer.result number c.args.facts c.args.now c.in-Unkept.ensures.unkept.1 (if_there asked.result not_given.0 asked.ensures.nobody) in
    let idle_here = ap (λ (v : HostShown g.row.S.Denot). becomes_idle v.log c.args.lease.start.number c.args.facts c.args.now) (sym c.self.view_is) ∙ ap (λ (n : ℕ). becomes_idle state.log n c.args.facts c.args.now) (sym number_is) ∙ idle in
    let full = full_told asked.result not_given.0 not_given.1 (c.must_ask_again.ensures.not_contended c.if-must_ask_again.false) in
    let keeps = if_some asked.result Full (λ told. g.P.Permits.keeping c.args.permits.now asked.new.permits told) full asked.ensures.told in
    let log_is = closed.log
    ∙ ap (λ (k : ℕ). add k (Closed number CacheFull) (add k (Returned number c.args.facts) state.log)) c.moment-moment.ensures
    ∙ ap (λ (n : ℕ). add (moment_at state.log c.args.now) (Closed n CacheFull) (returned state.log n c.args.facts c.args.now)) number_is
    ∙ ap (λ (v : HostShown g.row.S.Denot). add (moment_at v.log c.args.now) (Closed c.args.lease.start.number CacheFull) (returned v.log c.args.lease.start.number c.args.facts c.args.now)) c.self.view_is in
    let fewer = ap (λ (v : HostShown g.row.S.Denot). length (open_connections v.log)) (sym c.self.view_is) ∙ closed.fewer_open in
    record {
      known = search rules;
      told = (Full, g.met.P.Permits.keeping_still _ _ _ Full keeps c.release_open.ensures.stays c.release_open.ensures.same_kept, back_closed c.args.self.now (shown c.give_back_to_close.new.self c.self.inside.grants.items c.self.inside.bookings.items c.spend_returned-in-Unkept.new.seats.tables) c.args.lease c.args.facts c.args.now idle_here c.args.close_if_full c.if-not-close_if_full.false true log_is (freed_one c.args.self.now.log c.give_back_to_close.new.self.log fewer));
      back_as = search rules;
      asked = subst (g.P.Permits.asked c.args.permits.now c.release_open.new.self 0) (same_asks c.args.self.now c.self.inside.state.log c.args.lease _ _ c.args.facts (ap (λ (v : HostShown g.row.S.Denot). v.log) c.self.view_is) c.take_apart-used.ensures.used) (then_none g.P.Permits.asked g.met.P.Permits.asked_on _ _ _ _ _ c.ask_to_keep-asked.ensures.asked c.release_open.ensures.asked);
    }
