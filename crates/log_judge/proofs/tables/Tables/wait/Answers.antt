use Rattle.std.proofs.Common.{◌≤◌, refl, sym, subst}
use Rattle.conn_log.specs.Connections.{last_moment}
use Rattle.conn_log.specs.Legal.{MayWait}
use Rattle.log_judge.specs.Tables.{HostLog}
use Rattle.log_judge.proofs.Following.{follows_wait}
use Rattle.log_judge.proofs.tables.Tables.wait.Goals as goal

pub invariant_of-self-2 : goal.invariant_of-self-2
invariant_of-self-2 c =
    let later : last_moment c.self.inside.log ≤ c.args.moment = subst (λ (h : HostLog). last_moment h.log ≤ c.args.moment) (sym c.self.view_is) c.requires.later in
    let may = subst (λ (h : HostLog). MayWait h.log c.args.want) (sym c.self.view_is) c.requires.may in
    rw c.add.ensures (follows_wait _ _ _ _ _ _ _ _ c.self.invariant c.args.moment later _ _ _ c.args.want _ may refl (λ t. refl) refl c.in_ok-push.ensures.ok)
