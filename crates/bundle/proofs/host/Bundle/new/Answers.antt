use Rattle.std.proofs.Common.{ℕ, List, [], length, refl, sym, ap, subst, ◌∙◌, arith}
use Rattle.conn_log.specs.Waiting.{waiting}
use Rattle.conn_log.specs.Legal.{LimitAndFirst}
use Rattle.conn_log.proofs.Soundness.{sound_empty}
use Rattle.host_state.specs.State.{HostState}
use Rattle.bundle.specs.declared.grant.Grant.{Grant}
use Rattle.bundle.specs.Grants.{grant_starts}
use Rattle.host_state.specs.Laws.{IsSoundAndQuiet}
use Rattle.bundle.specs.Seats.{IsSeated, AreUnclaimed}
use Rattle.host_state.proofs.Soundness.{nobody_after}
use Rattle.bundle.proofs.Seating.{seated_new, unclaimed_new}
use Rattle.bundle.proofs.host.Bundle.new.Goals as goal

pub invariant_of-result : goal.invariant_of-result
invariant_of-result g c =
    let is = c.in-Ok.ensures in
    let settings : LimitAndFirst = record { limit = c.args.host_limit; first = c.args.first } in
    record {
      count = ap (λ (v : HostState g.row.S.Denot). v.booked) is ∙ sym (ap (λ (l : List ℕ). length l) c.new-3.ensures.items);
      bookings = rw c.new-3.ensures.items tt;
      settled = subst (λ (v : HostState g.row.S.Denot). IsSoundAndQuiet v.settings v.log) (sym is) (nobody_after settings [] (sound_empty settings) refl);
      grants = rw c.new-2.ensures.items tt;
      spare = omega (arith, ap (λ (v : HostState g.row.S.Denot). length (waiting v.log)) is, ap (λ (v : HostState g.row.S.Denot). v.booked) is, c.new-2.ensures.len);
      seated = subst (λ (v : HostState g.row.S.Denot). IsSeated v.log c.in_ok-new.field-0) (sym is) (seated_new c.in_ok-new.field-0 c.in_ok-new.ensures.counts_none);
      unclaimed = subst (λ (grants : List (Grant g.row.S.Denot)). AreUnclaimed (grant_starts grants) c.in_ok-new.field-0) (sym c.new-2.ensures.items) (unclaimed_new c.in_ok-new.field-0 c.in_ok-new.ensures.counts_none);
    }
