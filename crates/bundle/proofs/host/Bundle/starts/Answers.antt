use Rattle.std.proofs.Common.{ap, ◌∙◌}
use Rattle.conn_log.specs.Starts.{start_count}
use Rattle.bundle.specs.Lease.{HostShown}
use Rattle.bundle.proofs.host.Bundle.starts.Goals as goal

pub invariant_of-self : goal.invariant_of-self
invariant_of-self g c = rw c.starts.ensures.same c.self.invariant

pub returns-clause-starts : goal.returns-clause-starts
returns-clause-starts g c = c.starts.ensures.starts ∙ c.self.invariant.seated.starts ∙ ap (λ (v : HostShown g.row.S.Denot). start_count v.log) c.self.view_is
