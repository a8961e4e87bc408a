use Rattle.std.proofs.Common.{rules, ap, sym}
use Rattle.std.proofs.lemmas.List.{nil_from_length}
use Rattle.load_figures.specs.Intervals.{slices_in}
use Rattle.load_figures.proofs.interval.all_slices.Goals as goal

pub returns-then-is_empty-clause-slices : goal.returns-then-is_empty-clause-slices
returns-then-is_empty-clause-slices c = sym (ap slices_in (nil_from_length c.args.slices.now.items (search (rules, c.is_empty.ensures, c.if-is_empty.true))))
