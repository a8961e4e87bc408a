use Rattle.std.proofs.Common.{◌≡◌, ℕ, true, false, None, Some, is_some, refl, sym, ap, subst, ◌∙◌, ◌++◌, arith, rules}
use Rattle.std.specs.Prelude.{◌==◌, if◌then◌else◌}
use Rattle.conn_log.specs.declared.entry.Want.{Want}
use Rattle.conn_log.specs.Connections.{is_among}
use Rattle.bundle.specs.Grants.{GrantsKept, grant_starts, grant_streams, grant_transfers}
use Rattle.host_state.specs.Idle.{stream_of}
use Rattle.bundle.specs.Lease.{HostShown, Using, Leasing, lease_at, start_for, is_unclaimed, is_valid_ticket}
use Rattle.budget.specs.Accounts.{change_at, told}
use Rattle.bundle.specs.declared.did.Did.TheVariants.{Claimed, Still}
use Rattle.bundle.specs.Seats.{LeaseSeats, AreUnclaimed, gone}
use Rattle.bundle.proofs.Telling.{accounts_told}
use Rattle.bundle.proofs.Granting.{is_some-grant_of, start_granted, kept_at, kept_without}
use Rattle.bundle.proofs.Answering.{stood_granted, claimed_left, claimed_stream, claimed_streams, gets_at}
use Rattle.bundle.proofs.Seating.{granted_once, granted_unsplit, seated_claimed, unclaimed_claimed}
use Rattle.bundle.proofs.LeaseEnds.{same_pair}
use Rattle.bundle.proofs.host.Bundle.claim.Goals as goal

pub returns-in_default-clause-still : goal.returns-in_default-clause-still
returns-in_default-clause-still g c =
    let t = c.want-want.result.transfer in
    let who : t ≡ c.args.ticket.wait.want.transfer = ap (λ (w : Want). w.transfer) c.want-want.ensures in
    let out : is_among t (grant_transfers c.self.inside.grants.items) ≡ false = sym (is_some-grant_of c.self.inside.grants.items t) ∙ ap is_some (sym c.in_default.ensures.grant) in
    let items = c.in_default.ensures.unchanged in
    (ap (λ (v : HostShown g.row.S.Denot). is_unclaimed v c.args.ticket.wait.want.transfer) (sym c.self.view_is) ∙ ap (λ (n : ℕ). is_among n (grant_transfers c.self.inside.grants.items)) (sym who) ∙ out, refl, cc)

pub invariant_of-self : goal.invariant_of-self
invariant_of-self g c =
    let state = c.self.inside.state in
    let inv = c.self.invariant in
    let items = c.in_default.ensures.unchanged in
    record {
      count = inv.count;
      bookings = inv.bookings;
      settled = inv.settled;
      grants = subst (λ gs. GrantsKept state.log gs) (sym items) inv.grants;
      spare = omega (arith, inv.spare, c.take_grant.ensures.len, c.take_grant.ensures.capacity);
      seated = inv.seated;
      unclaimed = subst (λ gs. AreUnclaimed (grant_starts gs) c.self.inside.seats) (sym items) inv.unclaimed;
    }

pub claim-seat-requires-clause-granted : goal.claim-seat-requires-clause-granted
claim-seat-requires-clause-granted g c =
    let inv = c.self.invariant in
    granted_once c.self.inside.state.log c.self.inside.grants.items c.self.inside.seats inv.grants inv.unclaimed c.want-want.result.transfer c.in-Some.grant (sym c.in-Some.ensures.grant)

pub claim-seat-requires-clause-unsplit : goal.claim-seat-requires-clause-unsplit
claim-seat-requires-clause-unsplit g c =
    let inv = c.self.invariant in
    granted_unsplit c.self.inside.state.log c.self.inside.grants.items c.self.inside.seats inv.seated inv.grants inv.unclaimed c.want-want.result.transfer c.in-Some.grant (sym c.in-Some.ensures.grant)

pub returns-in_default-clause-pass : goal.returns-in_default-clause-pass
returns-in_default-clause-pass g c =
    let host_is = c.host.ensures ∙ ap (λ (v : HostShown g.row.S.Denot). v.host) c.self.view_is in
    let did = Still c.want-want.result.transfer in
    let tells_so = c.tell-in_default.ensures.account ∙ ap (λ (n : ℕ). change_at c.args.pass.now n (told did)) host_is in
    record {
      seats = search rules;
      account = accounts_told c.args.self.now c.self.inside.state.log c.args.pass.now c.tell-in_default.new.self (Some did) c.requires.enrolled tells_so (ap (λ (v : HostShown g.row.S.Denot). gone v.log) c.self.view_is);
    }

pub returns-clause-pass : goal.returns-clause-pass
returns-clause-pass g c =
    let host_is = c.host.ensures ∙ ap (λ (v : HostShown g.row.S.Denot). v.host) c.self.view_is in
    let did = Claimed c.want-want.result.transfer in
    let tells_so = c.tell-2.ensures.account ∙ ap (λ (n : ℕ). change_at c.args.pass.now n (told did)) host_is in
    record {
      seats = search rules;
      account = accounts_told c.args.self.now c.self.inside.state.log c.args.pass.now c.tell-2.new.self (Some did) c.requires.enrolled tells_so (ap (λ (v : HostShown g.row.S.Denot). gone v.log) c.self.view_is);
    }

pub new-requires-2 : goal.new-requires-2
new-requires-2 g c =
    let grants = c.self.inside.grants.items in
    let t = c.want-want.result.transfer in
    let grant = c.in-Some.grant in
    let there = kept_at c.self.inside.state.log grants t grant c.self.invariant.grants (sym c.in-Some.ensures.grant) in
    let used = c.granted-used.ensures in
    ap (λ (seat : LeaseSeats). seat.pair) c.claim-seat.ensures.seat ∙ same_pair grant.number t _ _ (ap (λ (u : Using g.row.S.Denot). u.start.number) (sym used)) (sym there.1 ∙ ap (λ (u : Using g.row.S.Denot). u.start.want.transfer) (sym used))

pub invariant_of-self-2 : goal.invariant_of-self-2
invariant_of-self-2 g c =
    let state = c.self.inside.state in
    let grants = c.self.inside.grants.items in
    let held = c.self.inside.seats in
    let inv = c.self.invariant in
    let t = c.want-want.result.transfer in
    let grant = c.in-Some.grant in
    let is = sym c.in-Some.ensures.grant in
    record {
      count = inv.count;
      bookings = inv.bookings;
      settled = inv.settled;
      grants = subst (λ gs. GrantsKept state.log gs) (sym c.take_grant.ensures.grants) (kept_without state.log grants t inv.grants);
      spare = omega (arith, inv.spare, c.take_grant.ensures.len, c.take_grant.ensures.capacity);
      seated = seated_claimed state.log held c.claim-seat.new.self grant.number t inv.seated (granted_once state.log grants held inv.grants inv.unclaimed t grant is) c.claim-seat.ensures.seats;
      unclaimed = subst (λ gs. AreUnclaimed (grant_starts gs) c.claim-seat.new.self) (sym c.take_grant.ensures.grants) (unclaimed_claimed state.log grants held c.claim-seat.new.self inv.grants inv.unclaimed t grant is c.claim-seat.ensures.seats);
    }

pub returns-clause-lease : goal.returns-clause-lease
returns-clause-lease g c =
    let grants = c.self.inside.grants.items in
    let t = c.want-want.result.transfer in
    let who : t ≡ c.args.ticket.wait.want.transfer = ap (λ (w : Want). w.transfer) c.want-want.ensures in
    let lease_is = c.new-2.ensures ∙ ap (lease_at c.claim-seat.result.tables) c.granted-used.ensures in
    let state = c.self.inside.state in
    let test : c.is_valid_ticket.result ≡ true = grind (arith, c.if-not-is_valid_ticket.false) in
    let stood = ap (λ (v : HostShown g.row.S.Denot). is_valid_ticket v c.want-want.result) c.self.view_is ∙ sym c.is_valid_ticket.ensures ∙ test in
    let granted_for = stood_granted state.log grants c.self.invariant.grants c.want-want.result c.in-Some.grant (sym c.in-Some.ensures.grant) stood in
    let inv = c.self.invariant in
    let grant = c.in-Some.grant in
    let is = sym c.in-Some.ensures.grant in
    let kept = claimed_stream state.settings state.log inv.settled.sound.orderly grants inv.grants t grant is state.streams in
    let kept_so = subst (λ (l : Leasing g.row.S.Denot). l.stream ≡ (if l.start.reused then stream_of (grant_streams grants ++ state.streams) l.start.number else None)) (sym lease_is) kept in
    let number : c.new-2.result.start.number ≡ grant.number = ap (λ (l : Leasing g.row.S.Denot). l.start.number) lease_is in
    record {
      granted = (ap (λ (v : HostShown g.row.S.Denot). start_for v.unclaimed c.args.ticket.wait.want.transfer) (sym c.self.view_is) ∙ ap (start_for (grant_starts grants)) (sym who) ∙ start_granted grants t c.in-Some.grant (sym c.in-Some.ensures.grant) ∙ ap (λ (l : Leasing g.row.S.Denot). Some l.start) (sym lease_is), ap (λ (l : Leasing g.row.S.Denot). l.site) lease_is ∙ c.host-2.ensures ∙ ap (λ (v : HostShown g.row.S.Denot). v.host) c.self.view_is);
      wanted = ap (λ (l : Leasing g.row.S.Denot). l.start.want) lease_is ∙ granted_for ∙ c.want-want.ensures;
      made_here = search rules;
      has_stream = search rules;
      stream = subst (λ (v : HostShown g.row.S.Denot). c.new-2.result.stream ≡ (if c.new-2.result.start.reused then stream_of v.streams c.new-2.result.start.number else None)) c.self.view_is kept_so;
      streams = λ d other still. let apart : (grant.number == d) ≡ false = ap (λ (n : ℕ). n == d) (sym number) ∙ other in ap (λ gs. stream_of (grant_streams gs ++ state.streams) d) c.take_grant.ensures.grants
          ∙ claimed_streams state.settings state.log inv.settled.sound.orderly grants inv.grants t grant is state.streams d apart
          ∙ ap (λ (v : HostShown g.row.S.Denot). stream_of v.streams d) c.self.view_is;
      gets = gets_at _ _ _ _ _ _ _ c.self.view_is who (sym number) (claimed_left state.settings state.log inv.settled.sound.orderly grants inv.grants t grant is c.take_grant.new.grants.items c.take_grant.ensures.grants _ _ _ _ _ _ _ _ _ _ _);
    }

pub returns-in_default-clause-settled : goal.returns-in_default-clause-settled
returns-in_default-clause-settled g c = (invariant_of-self g c).settled

pub returns-clause-settled : goal.returns-clause-settled
returns-clause-settled g c = (invariant_of-self-2 g c).settled
