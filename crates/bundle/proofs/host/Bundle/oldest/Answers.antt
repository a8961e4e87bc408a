use Rattle.std.proofs.Common.{ap, ◌∙◌}
use Rattle.conn_log.specs.Fit.{oldest_stamp}
use Rattle.bundle.specs.Lease.{HostShown}
use Rattle.bundle.proofs.host.Bundle.oldest.Goals as goal

pub returns : goal.returns
returns g c = c.oldest.ensures ∙ ap (λ (v : HostShown g.row.S.Denot). oldest_stamp v.log v.host) c.self.view_is
