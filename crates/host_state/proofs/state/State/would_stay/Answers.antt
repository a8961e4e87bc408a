use Rattle.std.proofs.Common.{sym, ap, ◌∙◌}
use mathlib.Core.Bool.{false≢true}
use Rattle.conn_log.specs.Connections.{is_held_by}
use Rattle.conn_log.specs.Sound.{held_facts}
use Rattle.host_state.specs.State.{HostState}
use Rattle.host_state.proofs.Replaying.{would_stay_held}
use Rattle.host_state.proofs.state.State.would_stay.Goals as goal

pub returns-in-None-clause-no : goal.returns-in-None-clause-no
returns-in-None-clause-no g c facts is is_false stays =
    let log_is = ap (λ (v : HostState g.row.S.Denot). v.log) c.self.view_is in
    let shown = ap (λ log. held_facts log c.args.transfer) log_is ∙ stays.was_held in
    let is_held = ap (λ log. is_held_by log c.args.transfer c.args.number) (sym log_is) ∙ would_stay_held c.self.invariant.replays c.args.transfer c.args.number stays.held shown stays.number in
    false≢true (sym c.in-None.ensures.none ∙ is_held)
