use Rattle.std.proofs.Common.{◌≤◌, sym, subst}
use Rattle.conn_log.specs.Connections.{last_moment}
use Rattle.conn_log.specs.Legal.{MayOpen}
use Rattle.log_judge.specs.Tables.{HostLog}
use Rattle.log_judge.proofs.Following.{follows_same, free_start, follows_open}
use Rattle.log_judge.proofs.tables.Tables.open.Goals as goal

pub hold-requires-clause-free : goal.hold-requires-clause-free
hold-requires-clause-free c =
    let roomy = follows_same _ _ _ _ _ _ _ _ c.self.invariant _ _ c.make_room.ensures.same c.make_room.ensures.len in
    let may = subst (λ (h : HostLog). MayOpen h.settings h.log c.args.connection c.args.want) (sym c.self.view_is) c.requires.may in
    free_start _ _ _ _ _ _ _ _ roomy c.args.want may.start

pub invariant_of-self-2 : goal.invariant_of-self-2
invariant_of-self-2 c =
    let later : last_moment c.self.inside.log ≤ c.args.moment = subst (λ (h : HostLog). last_moment h.log ≤ c.args.moment) (sym c.self.view_is) c.requires.later in
    let roomy = follows_same _ _ _ _ _ _ _ _ c.self.invariant _ _ c.make_room.ensures.same c.make_room.ensures.len in
    let may = subst (λ (h : HostLog). MayOpen h.settings h.log c.args.connection c.args.want) (sym c.self.view_is) c.requires.may in
    rw c.add.ensures (follows_open _ _ _ _ _ _ _ _ roomy c.args.moment later _ _ _ c.args.connection c.args.want _ may c.in_ok-note_opened.ensures.ok c.hold.ensures.held c.hold.ensures.len c.take_out.ensures)
