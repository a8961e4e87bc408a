use Rattle.std.proofs.Common.{ap, sym, drop, reverse, ◌+◌, ◌∙◌}
use Rattle.conn_log.specs.Log.{Recorded}
use Rattle.conn_log.proofs.Cuts.{from_place, added_from}
use Rattle.conn_log.proofs.Logs.{rest_whole}
use Rattle.conn_log.proofs.log.Log.since.Goals as goal

pub returns-clause-from : goal.returns-clause-from
returns-clause-from c =
    let whole = rest_whole c.deref.result.now c.args.place in
    whole ∙ ap (drop c.args.place) c.deref.ensures.value ∙ sym (from_place c.self.inside.rest.items c.self.inside.past.entries c.args.place) ∙ ap (λ (log : Recorded). drop (log.cut_away + c.args.place) (reverse log.entries)) c.self.view_is

pub returns-clause-added : goal.returns-clause-added
returns-clause-added c added before is here =
    let shown = c.self.view_is in
    rest_whole c.deref.result.now c.args.place ∙ ap (drop c.args.place) c.deref.ensures.value
    ∙ added_from c.self.inside.rest.items c.self.inside.past.entries added before c.args.place (ap (λ (log : Recorded). log.entries) shown ∙ is) (ap (λ (log : Recorded). log.cut_away + c.args.place) shown ∙ here)
