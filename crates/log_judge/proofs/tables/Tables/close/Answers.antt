use Rattle.std.proofs.Common.{◌≡◌, ◌≤◌, nat_eq, Option, sym, ap, subst, ◌∙◌}
use Rattle.std.specs.Option.{IfSome, IsSome}
use Rattle.std.specs.HashMap.{get}
use Rattle.conn_log.specs.declared.entry.Want.{Want}
use Rattle.conn_log.specs.Connections.{last_moment, holder_want}
use Rattle.conn_log.specs.Legal.{MayClose}
use Rattle.log_judge.specs.Tables.{HostLog}
use Rattle.log_judge.proofs.Following.{holder_there, follows_close}
use Rattle.log_judge.proofs.tables.Tables.close.Goals as goal

pub let_go_of-requires : goal.let_go_of-requires
let_go_of-requires c =
    let holder_is : c.holder-holder.result ≡ holder_want c.self.inside.log c.args.connection = c.holder-holder.ensures ∙ ap (λ (h : HostLog). holder_want h.log c.args.connection) (sym c.self.view_is) in
    subst (λ (o : Option Want). IfSome o (λ (want : Want). IsSome (get nat_eq c.self.inside.held want.transfer))) (sym holder_is) (holder_there _ _ _ _ _ _ _ _ c.self.invariant c.args.connection)

pub invariant_of-self : goal.invariant_of-self
invariant_of-self c =
    let later : last_moment c.self.inside.log ≤ c.args.moment = subst (λ (h : HostLog). last_moment h.log ≤ c.args.moment) (sym c.self.view_is) c.requires.later in
    let may = subst (λ (h : HostLog). MayClose h.log c.args.connection c.args.cause) (sym c.self.view_is) c.requires.may in
    let holder_is : c.holder-holder.result ≡ holder_want c.self.inside.log c.args.connection = c.holder-holder.ensures ∙ ap (λ (h : HostLog). holder_want h.log c.args.connection) (sym c.self.view_is) in
    rw c.add.ensures (follows_close _ _ _ _ _ _ _ _ c.self.invariant c.args.moment later _ _ _ c.args.connection c.args.cause may c.remove.ensures.entries c.holder-holder.result holder_is c.let_go_of.ensures)
