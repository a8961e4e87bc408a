use Rattle.std.proofs.Common.{◌≡◌, List, length, drop, ap, ◌∙◌}
use Rattle.std.proofs.lemmas.List.{take_at}
use Rattle.load_figures.specs.declared.job_counts.JobCounts.{JobCounts}
use Rattle.load_figures.specs.Counts.{each_with, joined}
use Rattle.load_figures.specs.Figures.{JobFigures}
use Rattle.load_figures.proofs.figures.Figures.join.Goals as goal

pub returns-clause-hosts : goal.returns-clause-hosts
returns-clause-hosts c =
    let new : List JobCounts = c.join_each.new.hosts in
    let own : c.deref_mut.result.now ≡ c.args.self.now.hosts = c.deref_mut.ensures.value ∙ ap (λ (figures : JobFigures). figures.hosts) c.self.view_is in
    let others : c.deref.result.now ≡ c.args.other.now.hosts = c.deref.ensures.value ∙ ap (λ (figures : JobFigures). figures.hosts) c.other.view_is in
    take_at new (drop (length new) c.self.inside.hosts.items) c.self.inside.hosts.len (c.join_each.auto.hosts ∙ c.deref_mut.ensures.len)
    ∙ c.join_each.ensures
    ∙ ap (λ (hosts : List JobCounts). each_with joined hosts c.deref.result.now) own
    ∙ ap (λ (hosts : List JobCounts). each_with joined c.args.self.now.hosts hosts) others
