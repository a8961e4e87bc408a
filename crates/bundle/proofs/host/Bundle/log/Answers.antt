use Rattle.std.proofs.Common.{◌≡◌, ◌≤◌, Bool, true, false, ◌||◌, is_some, refl, ap, subst, ◌∙◌}
use Rattle.conn_log.specs.Connections.{is_idle}
use Rattle.conn_log.specs.Starts.{start_count}
use Rattle.host_state.specs.Calls.{leased_len}
use Rattle.host_state.specs.Idle.{stream_of}
use Rattle.bundle.specs.Grants.{grant_streams}
use Rattle.bundle.specs.Lease.{HostShown, UnclaimedAreStarts}
use Rattle.bundle.proofs.Streams.{some_behind, granted_streams, granted_starts}
use Rattle.bundle.proofs.Seating.{held_of_started}
use Rattle.bundle.proofs.host.Bundle.log.Goals as goal

pub returns-clause-has_streams : goal.returns-clause-has_streams
returns-clause-has_streams g c d =
    let state = c.self.inside.state in
    let grants = c.self.inside.grants.items in
    rw (← c.self.view_is) (
    some_behind (grant_streams grants) state.streams d
    ∙ ap (λ b. b || is_some (stream_of state.streams d)) (granted_streams grants d)
    ∙ rw (c.log.ensures.streams d) (turned _ (is_idle state.log d)))
  where
    turned : (a b : Bool) → (a || b) ≡ (b || a)
    turned true true = refl
    turned true false = refl
    turned false true = refl
    turned false false = refl

pub returns-clause-unclaimed : goal.returns-clause-unclaimed
returns-clause-unclaimed g c = subst (λ (v : HostShown g.row.S.Denot). UnclaimedAreStarts v) c.self.view_is (granted_starts c.self.inside.state.log c.self.inside.grants.items c.self.invariant.grants)

pub returns-clause-enough_starts : goal.returns-clause-enough_starts
returns-clause-enough_starts g c = subst (λ (v : HostShown g.row.S.Denot). leased_len v.log ≤ start_count v.log) c.self.view_is (held_of_started c.self.inside.state.log c.self.inside.seats c.self.invariant.seated)
