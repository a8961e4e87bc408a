use Rattle.std.proofs.Common.{reverse, ap, sym, ◌∙◌}
use Rattle.std.proofs.lemmas.List.{take_all}
use Rattle.conn_log.specs.Bases.{lead}
use Rattle.conn_log.proofs.Bases.{lead_waits, lead_counts}
use Rattle.conn_log.proofs.base.Base.lead.Goals as goal

pub returns : goal.returns
returns c =
    let self = c.args.self.now in
    let rest = reverse c.args.rest.now in
    let loop = c.loop-entry in
    let all = take_all loop.entry-index c.args.rest.now c.loop-entry-test.false in
    let waits = loop.invariant.waits ∙ sym (lead_waits self rest) in
    let counted = loop.invariant.counted ∙ sym (lead_counts self rest) in
    loop.invariant.others ∙ ap (λ entries. record (lead self (reverse entries)) { waiting = loop.base.waiting; counts = loop.base.counts }) all
    ∙ (λ i. record (lead self rest) { waiting = waits i; counts = counted i })
