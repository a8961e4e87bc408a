-- A transfer whose acquire is halfway neither holds nor waits: it stays so where who has what stays, or is less.
use Rattle.std.proofs.Common.{◌≡◌, ℕ, Bool, true, false, List, [], ◌∷◌, Option, None, is_some, refl, sym, ap, ◌∙◌}
use Rattle.std.specs.Prelude.{◌==◌, if◌then◌else◌}
use Rattle.conn_log.specs.declared.entry.Entry.{Entry}
use Rattle.conn_log.specs.Connections.{is_among, held_number}
use Rattle.conn_log.specs.Waiting.{waiting, waits}
use Rattle.bundle.specs.declared.grant.Grant.{Grant}
use Rattle.host_state.specs.Queue.{waiting_want}
use Rattle.bundle.specs.Grants.{grant_transfers, GrantsKept}
use Rattle.host_state.specs.Bookings.{AreBooked}
use Rattle.host_state.specs.Grants.{granted_want}
use Rattle.host_state.proofs.Transfers.{awaited_waits, none_awaited}
use Rattle.bundle.proofs.Granting.{leased, ticketed, granted_none, Freed, Grants}
use Rattle.bundle.proofs.Answering.{unclaimed_not}

-- it holds nothing, does not wait, and was granted nothing
pub record HasNothing (log : List Entry) (transfer : ℕ) : Type 0 where
  pub held : held_number log transfer ≡ None
  pub waits_not : waits log transfer ≡ false

module _ {S : Type 0} (log : List Entry) (grants : List (Grant S)) (kept : GrantsKept log grants) (u : ℕ) where
  nothing_granted : HasNothing log u → is_among u (grant_transfers grants) ≡ false
  nothing_granted nothing = granted_none log grants u kept nothing.held

  leases_nothing : HasNothing log u → leased log (grant_transfers grants) u ≡ None
  leases_nothing nothing = ap (λ b. if b then None else held_number log u) (nothing_granted nothing) ∙ nothing.held

  awaits_nothing : HasNothing log u → ticketed log (grant_transfers grants) u ≡ None
  awaits_nothing nothing = ap (λ b. if b then granted_want log u else waiting_want (waiting log) u) (nothing_granted nothing) ∙ none_awaited log u nothing.waits_not

  -- who has neither a lease nor a ticket has nothing
  has_nothing : leased log (grant_transfers grants) u ≡ None → ticketed log (grant_transfers grants) u ≡ None → HasNothing log u
  has_nothing lease ticket =
      let out = unclaimed_not log grants kept u ticket in
      let awaits : waiting_want (waiting log) u ≡ None = sym (ap (λ b. if b then granted_want log u else waiting_want (waiting log) u) out) ∙ ticket in
      record {
        held = sym (ap (λ b. if b then None else held_number log u) out) ∙ lease;
        waits_not = sym (awaited_waits u (waiting log)) ∙ ap is_some awaits;
      }

-- each of them has nothing
pub booked_nothing : (log after : List Entry) → ((u : ℕ) → HasNothing log u → HasNothing after u) → (booked : List ℕ) → AreBooked log booked → AreBooked after booked
booked_nothing log after still [] are = tt
booked_nothing log after still (t ∷ others) are =
    let nothing = still t (record { held = are.0; waits_not = are.1 }) in
    (nothing.held, nothing.waits_not, are.2, booked_nothing log after still others are.3)

-- where one transfer gave up what it had, and where nobody's lease or ticket changed
pub booked_freed : {S : Type 0} (t : ℕ) (log : List Entry) (grants : List (Grant S)) (after : List Entry) (left : List (Grant S)) → GrantsKept log grants → Freed t log grants after left → (booked : List ℕ) → AreBooked log booked → AreBooked after booked
booked_freed t log grants after left kept freed booked are = booked_nothing log after still booked are
  where
    unless_freed : {A : Type 0} (b : Bool) (x : Option A) → x ≡ None → (if b then None else x) ≡ None
    unless_freed true x none = refl
    unless_freed false x none = none

    still : (u : ℕ) → HasNothing log u → HasNothing after u
    still u nothing = has_nothing after left freed.kept u (freed.leases u ∙ unless_freed (t == u) (leased log (grant_transfers grants) u) (leases_nothing log grants kept u nothing)) (freed.tickets u ∙ unless_freed (t == u) (ticketed log (grant_transfers grants) u) (awaits_nothing log grants kept u nothing))

pub booked_granted : {S : Type 0} (log : List Entry) (grants : List (Grant S)) (after : List Entry) (left : List (Grant S)) → GrantsKept log grants → Grants log grants after left → (booked : List ℕ) → AreBooked log booked → AreBooked after booked
booked_granted log grants after left kept granted booked are = booked_nothing log after still booked are
  where
    still : (u : ℕ) → HasNothing log u → HasNothing after u
    still u nothing = has_nothing after left granted.kept u (granted.leases u ∙ leases_nothing log grants kept u nothing) (granted.tickets u ∙ awaits_nothing log grants kept u nothing)
