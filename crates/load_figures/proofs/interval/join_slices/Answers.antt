use Rattle.std.proofs.Common.{rules, ◌≡◌, ◌∙◌, [], ap, ap₂, sym}
use Rattle.std.proofs.lemmas.List.{nil_from_length}
use Rattle.load_figures.specs.Counts.{each_with}
use Rattle.load_figures.specs.Intervals.{capped_slices, slices_in}
use Rattle.load_figures.proofs.Places.{each_with-zeros}
use Rattle.load_figures.proofs.interval.join_slices.Goals as goal

pub returns-then-is_empty-2-clause-joined : goal.returns-then-is_empty-2-clause-joined
returns-then-is_empty-2-clause-joined c =
    let own : c.args.slices.now.items ≡ [] = nil_from_length c.args.slices.now.items (search (rules, c.is_empty.ensures, c.if-is_empty.true)) in
    let other : c.args.others.now.items ≡ [] = nil_from_length c.args.others.now.items (search (rules, c.is_empty-then-is_empty.ensures, c.if-is_empty-2.true)) in
    ap slices_in own ∙ sym (each_with-zeros 832) ∙ sym (ap₂ (λ xs ys. each_with capped_slices (slices_in xs) (slices_in ys)) own other)
