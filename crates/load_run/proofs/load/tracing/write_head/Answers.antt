use Rattle.std.proofs.Common.{◌∙◌, ◌++◌, List, ℕ, ap, subst}
use Rattle.load_run.specs.LoadSites.{site_lines}
use Rattle.load_run.specs.LoadTraces.{WritesTrace, first_lines}
use Rattle.load_run.proofs.load.tracing.write_head.Goals as goal

pub returns : goal.returns
returns g c =
    let head : List ℕ = first_lines c.args.options ++ site_lines c.args.sites.now.sites.items in
    subst (λ (text : List ℕ). WritesTrace text (g.W.Sink.sink c.args.output.now) (g.W.Sink.sink c.put.new.output) c.put.result)
    (c.as_str.ensures.value ∙ c.in-Ok.ensures ∙ ap (λ (text : List ℕ). text ++ head) c.new-text.ensures.bytes) c.put.ensures
