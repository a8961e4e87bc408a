use Rattle.std.proofs.Common.{List, length, drop, ap, subst, ◌∙◌}
use Rattle.std.proofs.lemmas.List.{take_at}
use Rattle.load_figures.specs.Intervals.{IntervalCounts, folded, IsFold}
use Rattle.load_figures.proofs.Places.{folded_line, line_of}
use Rattle.load_figures.proofs.intervals.Intervals.fold.Goals as goal

pub returns : goal.returns
returns c =
    let new : List IntervalCounts = c.fold_items.new.items in
    ap (λ (items : List IntervalCounts). line_of c.saturating_mul-self-inside.result items)
    (take_at new (drop (length new) c.self.inside.items.items) c.self.inside.items.len (c.fold_items.ensures.as_many ∙ c.deref_mut.ensures.len))
    ∙ folded_line c.saturating_mul-self-inside.result new (line_of c.self.inside.length_us c.self.inside.items.items) c.self.invariant.as_many c.saturating_mul-self-inside.ensures
    (subst (λ (items : List IntervalCounts). IsFold items new) c.deref_mut.ensures.value c.fold_items.ensures)
    ∙ ap folded c.self.view_is
