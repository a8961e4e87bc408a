use Rattle.std.proofs.Common.{sym, ◌∙◌}
use Rattle.bundle_tests.proofs.DeskHosts.{after_elsewhere}
use Rattle.bundle_tests.proofs.desk.Desk.close_elsewhere.Goals as goal

pub invariant_of-self : goal.invariant_of-self
invariant_of-self g c =
    let desk = c.self.inside in
    let third = c.elsewhere-host.ensures in
    after_elsewhere desk.bundle desk.other _ _ _ _ _ _ _ c.self.invariant c.at-permits.ensures.budget c.at-permits.ensures.host (λ e. third.not_here (e ∙ sym c.host.ensures)) (λ e. third.not_there (e ∙ sym c.host-2.ensures)) c.close_one.ensures.stays.2
