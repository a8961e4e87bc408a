use Rattle.std.proofs.Common.{◌≤◌, length, sym, subst}
use Rattle.conn_log.specs.Connections.{last_moment, open_connections}
use Rattle.log_judge.specs.Tables.{HostLog}
use Rattle.log_judge.proofs.Following.{follows_limit}
use Rattle.log_judge.proofs.tables.Tables.set_limit.Goals as goal

pub invariant_of-self : goal.invariant_of-self
invariant_of-self c =
    let later : last_moment c.self.inside.log ≤ c.args.moment = subst (λ (h : HostLog). last_moment h.log ≤ c.args.moment) (sym c.self.view_is) c.requires.later in
    let within = subst (λ (h : HostLog). length (open_connections h.log) ≤ c.args.limit) (sym c.self.view_is) c.requires.within in
    rw c.add.ensures (follows_limit _ _ _ _ _ _ _ _ c.self.invariant c.args.moment later c.args.limit c.ranges.limit.fits within)
