use Rattle.std.proofs.Common.{◌≡◌, true, not, List, [], ◌∷◌, length, sym, ap, subst, ◌∙◌}
use Rattle.std.specs.Prelude.{◌==◌}
use mathlib.Core.Bool.{false≢true}
use Rattle.conn_log.specs.declared.entry.Want.{Want}
use Rattle.conn_log.specs.Waiting.{waiting}
use Rattle.conn_log.specs.Legal.{IsAnyone}
use Rattle.host_state.specs.State.{HostState}
use Rattle.host_state.proofs.state.State.anyone_waits.Goals as goal

some_left : (wants : List Want) → not (length wants == 0) ≡ true → IsAnyone wants
some_left [] some = absurd (false≢true some)
some_left (head ∷ wants) some = tt

pub returns-clause-yes : goal.returns-clause-yes
returns-clause-yes g c some =
    subst IsAnyone (c.self.invariant.queue ∙ ap (λ (v : HostState g.row.S.Denot). waiting v.log) c.self.view_is) (some_left c.self.inside.queue.wants (ap not (sym c.is_empty.ensures) ∙ some))
