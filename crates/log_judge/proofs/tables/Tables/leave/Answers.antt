use Rattle.std.proofs.Common.{◌≡◌, ◌≤◌, true, sym, subst}
use Rattle.conn_log.specs.Connections.{last_moment}
use Rattle.conn_log.specs.Waiting.{waits}
use Rattle.log_judge.specs.Tables.{HostLog}
use Rattle.log_judge.proofs.Following.{follows_leave}
use Rattle.log_judge.proofs.tables.Tables.leave.Goals as goal

pub invariant_of-self : goal.invariant_of-self
invariant_of-self c =
    let later : last_moment c.self.inside.log ≤ c.args.moment = subst (λ (h : HostLog). last_moment h.log ≤ c.args.moment) (sym c.self.view_is) c.requires.later in
    let there = subst (λ (h : HostLog). waits h.log c.args.transfer ≡ true) (sym c.self.view_is) c.requires.waits in
    rw c.add.ensures (follows_leave _ _ _ _ _ _ _ _ c.self.invariant c.args.moment later c.args.transfer _ there c.take_out.ensures)
