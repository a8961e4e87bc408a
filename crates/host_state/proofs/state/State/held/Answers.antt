use Rattle.std.proofs.Common.{◌≡◌, false, sym, ap, ◌∙◌, arith}
use Rattle.std.specs.Prelude.{◌==◌}
use Rattle.std.specs.Option.{option_copied}
use Rattle.conn_log.specs.Connections.{is_held_by}
use Rattle.std.proofs.lemmas.Bool.Decides.{nat_tests}
use Rattle.host_state.proofs.Replaying.{table_none, table_other, table_held}
use Rattle.host_state.proofs.state.State.held.Goals as goal

pub returns-in_default-clause-none : goal.returns-in_default-clause-none
returns-in_default-clause-none g c =
    let kept = c.in-Some.held.now in
    let apart : (kept.number == c.args.number) ≡ false = grind (arith, nat_tests, c.if-held-number.false) in
    rw (← c.self.view_is) (table_other c.self.invariant.replays c.args.transfer c.args.number kept (sym c.get.ensures.value ∙ ap option_copied c.in-Some.is) apart)

pub returns-in_default-2-clause-none : goal.returns-in_default-2-clause-none
returns-in_default-2-clause-none g c =
    rw (← c.self.view_is) (table_none c.self.invariant.replays c.args.transfer c.args.number (sym c.get.ensures.value ∙ ap option_copied c.in_default.is))

pub returns-in-Some-clause-known : goal.returns-in-Some-clause-known
returns-in-Some-clause-known g c =
    let kept = c.in-Some.held.now in
    let told = table_held c.self.invariant.replays c.args.transfer kept (sym c.get.ensures.value ∙ ap option_copied c.in-Some.is) in
    rw (← c.self.view_is) (ap (is_held_by c.self.inside.log.entries c.args.transfer) (sym c.if-held-number.true) ∙ told)
