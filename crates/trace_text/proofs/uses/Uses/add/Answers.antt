use Rattle.std.proofs.Common.{rules, ◌≡◌, ◌∙◌, ap, not, map, filter}
use Rattle.std.specs.Prelude.{◌==◌}
use Rattle.std.proofs.lemmas.Fn.{filter_same}
use Rattle.trace_text.specs.HostUses.{holding_of}
use Rattle.trace_text.specs.declared.uses.Held.{Held}
use Rattle.trace_text.proofs.Holdings.{map-without}
use Rattle.trace_text.proofs.uses.Uses.add.Goals as goal

pub returns-in-Returned-clause-held : goal.returns-in-Returned-clause-held
returns-in-Returned-clause-held c =
    let connection = c.in-Returned.connection in
    let held = c.args.self.now.held.items in
    let left : c.retain.new.self.items ≡ filter (λ (h : Held). not (h.connection == connection)) held = filter_same _ _ _ (λ x b f' k. search rules) _ _ c.retain.ensures.filtered in
    let gone = ap (map holding_of) left ∙ map-without connection held in
    search (rules, gone)
