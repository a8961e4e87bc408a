use Rattle.std.proofs.Common.{◌≡◌, nat_eq, Option, sym, ap, subst, ◌∙◌}
use Rattle.std.specs.Option.{IfSome, IsSome}
use Rattle.std.specs.HashMap.{get}
use Rattle.std.specs.Ordering.{nat_cmp}
use Rattle.std.specs.BTreeMap.{is_at}
use Rattle.std.specs.Map.{remove_entry}
use Rattle.conn_log.specs.declared.entry.Want.{Want}
use Rattle.conn_log.specs.Connections.{holder_want}
use Rattle.log_judge.specs.Tables.{HostLog, IsDue}
use Rattle.log_judge.proofs.Following.{holder_there, follows_end}
use Rattle.log_judge.proofs.tables.Tables.end.Goals as goal

pub let_go_of-requires : goal.let_go_of-requires
let_go_of-requires c =
    let holder_is : c.holder-holder.result ≡ holder_want c.self.inside.log c.args.due.connection = c.holder-holder.ensures ∙ ap (λ (h : HostLog). holder_want h.log c.args.due.connection) (sym c.self.view_is) in
    subst (λ (o : Option Want). IfSome o (λ (want : Want). IsSome (get nat_eq c.self.inside.held want.transfer))) (sym holder_is) (holder_there _ _ _ _ _ _ _ _ c.self.invariant c.args.due.connection)

pub invariant_of-self : goal.invariant_of-self
invariant_of-self c =
    let due = subst (λ (h : HostLog). IsDue h.log c.args.due) (sym c.self.view_is) c.requires.due in
    let holder_is : c.holder-holder.result ≡ holder_want c.self.inside.log c.args.due.connection = c.holder-holder.ensures ∙ ap (λ (h : HostLog). holder_want h.log c.args.due.connection) (sym c.self.view_is) in
    let entries = (follows_end _ _ _ _ _ _ _ _ c.self.invariant c.args.due c.args.moment _ _ _ due c.requires.later (c.remove.ensures.entries ∙ ap (λ es. remove_entry (is_at (nat_cmp c.args.due.connection)) es) c.note_returned.ensures) c.holder-holder.result holder_is c.let_go_of.ensures) in
    rw (c.add-2.ensures, c.add.ensures, c.entry.ensures) entries
