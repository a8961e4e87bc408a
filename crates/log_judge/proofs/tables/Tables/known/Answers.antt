use Rattle.std.proofs.Common.{ap, ◌∙◌}
use Rattle.log_judge.specs.Rules.{known_at}
use Rattle.log_judge.specs.Tables.{HostLog}
use Rattle.log_judge.proofs.Following.{known_told}
use Rattle.log_judge.proofs.tables.Tables.known.Goals as goal

pub returns : goal.returns
returns c = c.copied.ensures ∙ c.get.ensures.value ∙ known_told _ _ _ _ _ _ _ _ c.self.invariant c.args.connection ∙ ap (λ (h : HostLog). known_at h.log c.args.connection) c.self.view_is
