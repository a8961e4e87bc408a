use Rattle.std.proofs.Common.{length, ap, ◌∙◌, arith}
use Rattle.conn_log.specs.Connections.{open_connections}
use Rattle.log_judge.specs.Tables.{HostLog}
use Rattle.log_judge.proofs.Following.{open_told}
use Rattle.log_judge.proofs.tables.Tables.open_len.Goals as goal

pub returns-clause-count : goal.returns-clause-count
returns-clause-count c = c.len.ensures.len ∙ open_told _ _ _ _ _ _ _ _ c.self.invariant ∙ ap (λ (h : HostLog). length (open_connections h.log)) c.self.view_is

pub returns-clause-few : goal.returns-clause-few
returns-clause-few c =
    let follows = c.self.invariant in
    omega (arith, c.len.ensures.len, open_told _ _ _ _ _ _ _ _ follows, follows.sound.orderly.within, follows.limit_is, follows.small)
